use Rattle.std.proofs.Common.{List, [], ◌∷◌, ◌++◌, map, ap, ◌∙◌, append_assoc}
use Rattle.std.specs.Sync.Mutex.{mutex_guard_value}
use Rattle.oz_asker.specs.declared.telling.still.Still.{Still}
use Rattle.oz_asker.specs.declared.telling.still.Still.TheVariants.{Seat}
use Rattle.oz_core.specs.Seats.{scm_seat}
use Rattle.oz_service.specs.AllLocked.{flusher_still, node_still}
use Rattle.oz_service.proofs.Listed.{map_both}
use Rattle.oz_service.proofs.all_locked.AllLocked.stills.Goals as goal

pub returns : goal.returns
returns g c =
    let place = c.args.place in
    let first : List Still = flusher_still c.args.flusher in
    let scm : List Still = Seat scm_seat place ∷ [] in
    let guards = c.self.inside.nodes.items in
    c.in_ok-add_nodes.ensures
    ∙ (ap (λ l. l ++ map (λ guard. node_still place (mutex_guard_value guard)) c.deref.result.now) (c.in_ok-push.ensures.items ∙ ap (λ l. l ++ scm) c.in_ok-stills.ensures)
    ∙ (ap (λ l. (first ++ scm) ++ map (λ guard. node_still place (mutex_guard_value guard)) l) c.deref.ensures.value
    ∙ (append_assoc first scm (map (λ guard. node_still place (mutex_guard_value guard)) guards)
    ∙ (ap (λ l. first ++ (scm ++ l)) (map_both mutex_guard_value (node_still place) guards)
    ∙ ap (λ v. first ++ (scm ++ map (node_still place) v.nodes)) c.self.view_is))))
