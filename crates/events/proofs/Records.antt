-- The record of zeros, as the code makes it, is `no_event`.
use Rattle.std.proofs.Common.{◌≡◌, refl}
use Rattle.events.specs.declared.Event as S
use Rattle.events.specs.Events.{no_event}

abbrev pub zeros : S.Event
zeros = record { state = 0; length = 0; weight = 0; low = 0; high = 0 }

pub zeros_are : zeros ≡ no_event
unfolding no_event
zeros_are = refl
