use Rattle.oz_flusher.proofs.flushing_lemmas.Longer.{kept_longer}
use Rattle.oz_flusher.proofs.flushing.laws.the_whole_story_is_kept.Goals as goal

pub returns : goal.returns
returns g c disk stopped seen mine story kept begins known all =
    let O = g.O.Opened in
    kept_longer O.coherent O.opening O.bytes O.script O.bodies g.M.Mounted.disk stopped seen mine story _ kept begins known all
