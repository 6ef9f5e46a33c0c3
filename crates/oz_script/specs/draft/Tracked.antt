-- For private calls: what is noted beside a draft, so that its lines needn't be walked for each that follows.
use Rattle.std.specs.Prelude.{◌≡◌, ℕ, ◌+◌, ◌≤◌, Bool, List, length, Some, slice_index}
use Rattle.std.specs.BTreeSet.{BTreeSet, contains}
use Rattle.std.specs.Cmp.Lexicographic.{slice_cmp}
use Rattle.std.specs.Ordering.{nat_cmp, ordering_then}
use Rattle.std.specs.declared.cmp.Ordering.{Ordering}
use Rattle.oz_script.specs.declared.draft.drafting.Draft.{Draft}
use Rattle.oz_script.specs.declared.lines.script.TheConstants.{MOST_CLIENTS}
use Rattle.oz_script.specs.declared.draft.labels.OpenedLabel.{OpenedLabel}
use Rattle.oz_script.specs.draft.Drafts.{count_in, is_opened}

-- labels in the order of their clients, and then of their bytes
abbrev pub label_order : OpenedLabel → OpenedLabel → Ordering
label_order a b = ordering_then (nat_cmp a.client b.client) (slice_cmp nat_cmp a.label b.label)

-- the set has the label of the client
abbrev pub has_label : BTreeSet OpenedLabel → ℕ → List ℕ → Bool
has_label opened client label = contains label_order opened (record { client = client; label = label })

-- how many lines each client has, and which labels it has opened
pub record IsTracked (draft : Draft) (counts : List ℕ) (opened : BTreeSet OpenedLabel) : Type 0 where
  pub long : length counts ≡ length draft.clients
  pub few : length draft.clients ≤ MOST_CLIENTS
  pub counted : (client : ℕ) → slice_index counts client ≡ count_in draft.entries (client + 1)
  pub labelled : (client : ℕ) (label : List ℕ) → has_label opened client label ≡ is_opened draft.entries client (Some label)
