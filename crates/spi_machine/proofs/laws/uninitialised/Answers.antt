-- The law is proved over the definitions.
use Rattle.spi_machine.proofs.Idle.{never-ready, never-due, never-startable, finds-off}
use Rattle.spi_machine.proofs.laws.uninitialised.Goals as goal

pub returns : goal.returns
returns _ = record { ready = never-ready; due = never-due; startable = never-startable; calls = finds-off }
