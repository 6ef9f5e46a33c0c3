-- What no further event has undone.
use Rattle.std.specs.Prelude.{◌≢◌, ◌≡◌, false, List, All, drop}
use Rattle.oz_core.specs.declared.event.Event.{Event}
use Rattle.oz_core.specs.Law.{puts_or_copies}
use Rattle.oz_asker.specs.declared.telling.still.Still.{Still}
use Rattle.oz_asker.specs.declared.telling.still.Still.TheVariants as rests

-- Behind so many events the seat gave none; or the datanode neither put the block nor copied it.
abbrev pub StandsStill : List Event → Still → Type 0
StandsStill story (rests.Seat seat place) = All (λ (event : Event). event.seat ≢ seat) (drop place story)
StandsStill story (rests.Without dn block place) =
    All (λ (event : Event). puts_or_copies dn block event.kind ≡ false) (drop place story)

abbrev pub AllStandStill : List Event → List Still → Type 0
AllStandStill story stills = All (λ (still : Still). StandsStill story still) stills
