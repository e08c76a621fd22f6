-- The step of a call that makes its change, whichever it is.
-- From services.EnableTriggerRight, services.SingleWordCalls, services.BodySteps, services.StopRight and 2 more.
-- Used by adc_driver: services.AllSteps.
use Rattle.adc_groups.specs.Terms
use Terms.{adc_bodies, AdcBody, AdcGround, AdcState, AdcTable, Agrees, Begins_stream, body_ends, body_work, Bool, Call}
use Terms.{Chip, Closes_module, Enables_trigger, ended_at, false, FitsAdc, foot_of, FrameHistory, Is_this_frame}
use Terms.{IsDealing, Makes, Notifies, Origin, Points, Pulses, Reservations, RightOr, Sets_up, Stops, Stops_turn, true}
use Terms.{value_of, World, WriteBatch, ℕ}
use Rattle.adc_groups.specs.laws.services.{DeInitRight.{closes_right}, EnableTriggerRight.{drop_right, enable_right}}
use Rattle.adc_groups.specs.laws.services.{EnableTriggerRight.{request_right}, RequestRight.{start_right}}
use Rattle.adc_groups.specs.laws.services.{SingleWordCalls.{notifies, points_to, sets_up}, StopRight.{quiet_right}}
use Rattle.adc_groups.specs.laws.services.StopRight.{turn_right}

module _ (d : AdcTable) (fits : FitsAdc d) (f r : AdcBody → ℕ) (below : Reservations) (chip : Chip) (w : World) (s : AdcState) (h : Agrees d below chip w s) (m : ℕ → Bool) (y : ℕ) where
  abbrev body : WriteBatch → AdcBody
  body k = record { table = d; place = Makes k }

  pub deals_right : (k : WriteBatch) (o : Origin Call) (p : FrameHistory) → IsDealing d below (foot_of chip) w s o p k → RightOr (AdcGround d) (adc_bodies d f r) below chip w s (body k) o y p m (ended_at (adc_bodies d f r) body_ends (body k) (value_of chip (body_work (body k))))
  deals_right _ _ _ (Sets_up g b (Is_this_frame, may) idle) = sets_up d fits f r below chip w s h m y g b may idle
  deals_right _ _ _ (Notifies g on (Is_this_frame, may)) = notifies d fits f r below chip w s h m y g on may
  deals_right _ _ _ (Points g z (Is_this_frame, may) is nb ni) = points_to d fits f r below chip w s h m y g z may is nb ni
  deals_right _ _ _ (Begins_stream g (Is_this_frame, may) go) = start_right d fits f r below chip w s h m y g may go
  deals_right _ _ _ (Enables_trigger g (Is_this_frame, may) go) = enable_right d fits f r below chip w s h m y g may go
  deals_right _ _ _ (Pulses i g true Is_this_frame may turned) = drop_right d fits f r below chip w s h m y i g may turned
  deals_right _ _ _ (Pulses i g false Is_this_frame may turned) = request_right d fits f r below chip w s h m y i g may turned
  deals_right _ _ _ (Stops g call stop (Is_this_frame, may) busy none) = quiet_right d fits f r below chip w s h m y g call stop may busy none
  deals_right _ _ _ (Stops_turn g call run lost stop (Is_this_frame, may) busy on runs loses) = turn_right d fits f r below chip w s h m y g call stop may busy on run lost runs loses
  deals_right _ _ _ (Closes_module Is_this_frame on free alone) = closes_right d fits f r below chip w s h m y on free alone
