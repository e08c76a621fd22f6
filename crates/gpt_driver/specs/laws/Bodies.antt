-- The bodies of all services, as one.
-- Used by Look, Lawful, mcal_drivers: Frames.
use Rattle.service_outline.specs.declared.body.Or.{Or}
use Rattle.gpt_driver.specs.declared.service.count.CountBody.{CountBody}
use Rattle.gpt_driver.specs.declared.service.deinit.DeInitBody.{DeInitBody}
use Rattle.gpt_driver.specs.declared.service.init.InitBody.{InitBody}
use Rattle.gpt_driver.specs.declared.service.mode.ModeBody.{ModeBody}
use Rattle.gpt_driver.specs.declared.service.serve.ServeBody.{ServeBody}
use Rattle.gpt_driver.specs.declared.service.start.StartBody.{StartBody}
use Rattle.gpt_driver.specs.declared.service.stop.StopBody.{StopBody}
use Rattle.gpt_driver.specs.declared.service.switch.SwitchBody.{SwitchBody}

-- a place in the body of a call about a channel, and in any body of the driver
abbrev pub ChannelBody : Type 0
ChannelBody = Or (Or CountBody StartBody) (Or StopBody SwitchBody)

abbrev pub GptBody : Type 0
GptBody = Or (Or InitBody (Or DeInitBody ModeBody)) (Or ChannelBody ServeBody)
