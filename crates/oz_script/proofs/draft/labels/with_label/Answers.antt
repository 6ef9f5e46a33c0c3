use Rattle.std.proofs.Common.{◌==◌, ◌&&◌, ◌||◌, List, ℕ, ap, ◌∙◌}
use Rattle.std.specs.Str.{bytes_eq}
use Rattle.oz_script.specs.draft.Tracked.{has_label}
use Rattle.oz_script.proofs.draft_lemmas.Opened.{noted_label}
use Rattle.oz_script.proofs.draft.labels.with_label.Goals as goal

pub returns : goal.returns
returns c = λ (other : ℕ) (sought : List ℕ).
    noted_label c.args.opened c.insert.new.self (record { client = c.args.client; label = c.in_ok-label.label }) c.in_ok-insert.ensures.updates.0 other sought
    ∙ ap (λ (label : List ℕ). has_label c.args.opened other sought || (c.args.client == other && bytes_eq label sought)) (c.in_ok-label.ensures ∙ c.bytes.ensures)
