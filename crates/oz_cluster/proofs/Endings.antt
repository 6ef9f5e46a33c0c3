-- What a run that worked is.
use Rattle.std.proofs.Common.{◌≡◌, ◌≢◌, ◌↔◌, ◌⊎◌, ⊎_elim, Bool, true, false, ◌||◌, List, [], refl, sym, ◌∙◌, subst}
use Rattle.std.specs.Prelude.{if◌then◌else◌}
use Rattle.oz_core.specs.declared.event.Event.{Event}
use Rattle.oz_running.specs.status.Status.{Status}
use Rattle.oz_running.specs.status.Status.TheVariants as ends
use Rattle.oz_core.specs.declared.opening.Opening.{Opening}
use Rattle.oz_core.specs.Manager.{durable_index, last_index}
use Rattle.oz_running.specs.Buffer.{buffer_of}
use Rattle.oz_running.specs.Run.{IsWorkedOff}
use Rattle.oz_running.specs.NamedHalts.{StatusNamesHalts}
use Rattle.oz_script.specs.declared.lines.script.Script.{Script as Lines}

-- the Halts are as the status says
pub names_halts : (status : Status) (story : List Event) (said halted : Bool) → said ≡ halted → (status ≡ ends.Done → said ≡ false) → (status ≡ ends.Disk → said ≡ true)
    → StatusNamesHalts (if halted then ends.Disk else ends.Done) story → StatusNamesHalts status story
names_halts ends.Done story said halted is done named halts = subst (λ (b : Bool). StatusNamesHalts (if b then ends.Disk else ends.Done) story) (sym is ∙ done refl) halts
names_halts ends.Disk story said halted is done named halts = subst (λ (b : Bool). StatusNamesHalts (if b then ends.Disk else ends.Done) story) (sym is ∙ named refl) halts
names_halts ends.Script story said halted is done named halts = tt
names_halts ends.Words story said halted is done named halts = tt
names_halts ends.Read story said halted is done named halts = tt
names_halts ends.Unwritten story said halted is done named halts = tt
names_halts ends.Damaged story said halted is done named halts = tt
names_halts ends.OutOfMemory story said halted is done named halts = tt

-- the work is done, unless memory ran out
pub worked_off : (status : Status) (script : Lines) (story : List Event) (stopped is_done : Bool) → ((is_done ≡ true) ↔ IsWorkedOff stopped script story)
    → (status ≡ ends.OutOfMemory) ⊎ (is_done ≡ true) → status ≢ ends.OutOfMemory → IsWorkedOff stopped script story
worked_off status script story stopped is_done done told ne = ⊎_elim (λ none. absurd (ne none)) (λ all. done.0 all) told

-- where nothing halted, all went well and the work is done, what was decided is stable
pub stable_of : (status : Status) (script : Lines) (story : List Event) (opening : Opening) (stopped is_done said : Bool) (others : Bool) → said ≡ (stopped || others)
    → (status ≡ ends.Done → said ≡ false) → ((is_done ≡ true) ↔ IsWorkedOff stopped script story) → (status ≡ ends.OutOfMemory) ⊎ (is_done ≡ true)
    → (stopped ≡ false → buffer_of story ≡ [] → durable_index opening story ≡ last_index opening story)
    → status ≡ ends.Done → durable_index opening story ≡ last_index opening story
stable_of status script story opening stopped is_done said others is ended done told stable well =
    let running : stopped ≡ false = first_runs stopped others (sym is ∙ ended well) in
    let off = worked_off status script story stopped is_done done told (λ none. apart (sym well ∙ none)) in
    stable running (off.flushed running)
  where
    first_runs : (a b : Bool) → (a || b) ≡ false → a ≡ false
    first_runs true b none = none
    first_runs false b none = refl

    apart : ends.Done ≡ ends.OutOfMemory → ⊥
    apart e = cc
