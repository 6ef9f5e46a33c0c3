-- How many lines of a draft a client has, with one line more.
use Rattle.std.proofs.Common.{◌≡◌, ℕ, ◌+◌, cond, List, [], ◌∷◌, ◌++◌, ap, ◌∙◌, zero-add}
use Rattle.std.specs.Prelude.{◌==◌}
use Rattle.std.proofs.lemmas.List.Sums.{sum_by-append}
use Rattle.oz_script.specs.declared.draft.drafting.Entry.{Entry}
use Rattle.oz_script.specs.draft.Drafts.{count_in}

pub count-more : (entries : List Entry) (entry : Entry) (client : ℕ)
    → count_in (entries ++ entry ∷ []) client ≡ count_in entries client + cond (entry.client == client) 1 0
count-more entries entry client =
    sum_by-append (λ (e : Entry). cond (e.client == client) 1 0) entries (entry ∷ [])
    ∙ ap (λ (n : ℕ). count_in entries client + n) (zero-add (cond (entry.client == client) 1 0))
