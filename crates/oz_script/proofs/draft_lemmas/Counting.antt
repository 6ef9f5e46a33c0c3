-- How many lines a client has, one line after the other.
use Rattle.std.proofs.Common.{◌≡◌, ℕ, zero, suc, ◌+◌, ◌<◌, ◌≤◌, ◌≢◌, Bool, true, false, cond, List, [], ◌∷◌, ◌++◌, length, get_or, refl, sym, ap, ◌∙◌, subst, arith, inl, inr, eq-eqb}
use Rattle.std.specs.Prelude.{◌==◌, Some, slice_set}
use Rattle.std.specs.BTreeSet.{BTreeSet}
use Rattle.std.specs.Str.{bytes_eq}
use Rattle.std.proofs.lemmas.Bool.{eqb-true, eqb-false, ne_eqb}
use Rattle.std.proofs.lemmas.List.{length-append}
use Rattle.std.proofs.lemmas.List.Sums.{count_by-le-length}
use Rattle.std.proofs.lemmas.Bool.Decides.{eqb_tells}
use Rattle.oz_script.specs.declared.draft.drafting.Draft.{Draft}
use Rattle.oz_script.specs.declared.draft.drafting.Entry.{Entry}
use Rattle.oz_script.specs.declared.draft.labels.OpenedLabel.{OpenedLabel}
use Rattle.oz_script.specs.declared.draft.said.Said.{Said}
use Rattle.oz_script.specs.draft.Drafts.{count_in, client_place, is_opened, with_client, next_entry, longer}
use Rattle.oz_script.specs.draft.Tracked.{has_label, IsTracked}
use Rattle.oz_script.specs.draft.laws.Counts.{count-more}
use Rattle.oz_script.proofs.draft_lemmas.Opened.{Opens, labelled-more}
use Rattle.oz_script.proofs.draft_lemmas.Places.{place_within}

pub count-le-length : (entries : List Entry) (client : ℕ) → count_in entries client ≤ length entries
count-le-length entries client = count_by-le-length (λ (e : Entry). e.client == client) entries

-- a count of 0 at the end changes no count
pub get-zero : (counts : List ℕ) (k : ℕ) → get_or (counts ++ 0 ∷ []) k 0 ≡ get_or counts k 0
get-zero [] zero = refl
get-zero [] (suc k) = refl
get-zero (x ∷ xs) zero = refl
get-zero (x ∷ xs) (suc k) = get-zero xs k

pub same_default : (xs : List ℕ) (i d e : ℕ) → i < length xs → get_or xs i d ≡ get_or xs i e
same_default [] i d e lt = absurd (omega arith)
same_default (x ∷ xs) zero d e lt = refl
same_default (x ∷ xs) (suc i) d e lt = same_default xs i d e (omega arith)

get-set-same : (xs : List ℕ) (i v : ℕ) → i < length xs → get_or (slice_set xs i v) i 0 ≡ v
get-set-same [] i v lt = absurd (omega arith)
get-set-same (x ∷ xs) zero v lt = refl
get-set-same (x ∷ xs) (suc i) v lt = get-set-same xs i v (omega arith)

get-set-other : (xs : List ℕ) (i k v : ℕ) → (i ≡ k → ⊥) → get_or (slice_set xs i v) k 0 ≡ get_or xs k 0
get-set-other [] i k v ne = refl
get-set-other (x ∷ xs) zero zero v ne = absurd (ne refl)
get-set-other (x ∷ xs) zero (suc k) v ne = refl
get-set-other (x ∷ xs) (suc i) zero v ne = refl
get-set-other (x ∷ xs) (suc i) (suc k) v ne = get-set-other xs i k v (λ e. ne (ap suc e))

length-set-it : (xs : List ℕ) (i v : ℕ) → length (slice_set xs i v) ≡ length xs
length-set-it [] i v = refl
length-set-it (x ∷ xs) zero v = refl
length-set-it (x ∷ xs) (suc i) v = ap suc (length-set-it xs i v)

-- the clients and their counts, with the one that speaks among them
pub record Noted (draft : Draft) (clients : List (List ℕ)) (client : ℕ) (counts : List ℕ) : Type 0 where
  pub long : length counts ≡ length clients
  pub within : client < length clients
  pub few : length clients ≤ 64
  pub counted : (k : ℕ) → get_or counts k 0 ≡ count_in draft.entries (k + 1)

noted-at : (draft : Draft) (counts : List ℕ) (opened : BTreeSet OpenedLabel) (client : ℕ) (name : List ℕ) (new : Bool) → IsTracked draft counts opened → client ≤ length draft.clients → client < 64 → (client == length draft.clients) ≡ new
    → Noted draft (cond new (draft.clients ++ name ∷ []) draft.clients) client (cond new (counts ++ 0 ∷ []) counts)
noted-at draft counts opened client name true t le room e =
    let same : client ≡ length draft.clients = eqb-true client (length draft.clients) e in
    record {
      long = omega (arith, length-append counts (0 ∷ []), length-append draft.clients (name ∷ []), t.long);
      within = omega (arith, length-append draft.clients (name ∷ []), same);
      few = omega (arith, length-append draft.clients (name ∷ []), same, room);
      counted = λ k. get-zero counts k ∙ t.counted k;
    }
noted-at draft counts opened client name false t le room e =
    let other : client ≢ length draft.clients = eqb-false client (length draft.clients) e in
    record { long = t.long; within = omega (arith, le, other); few = t.few; counted = t.counted }

pub noted : (draft : Draft) (counts counts_after : List ℕ) (opened : BTreeSet OpenedLabel) (clients : List (List ℕ)) (client : ℕ) (name : List ℕ) → IsTracked draft counts opened → client ≡ client_place draft.clients name → client < 64
    → clients ≡ with_client draft.clients name → counts_after ≡ cond (client == length draft.clients) (counts ++ 0 ∷ []) counts → Noted draft clients client counts_after
noted draft counts counts_after opened clients client name t is room more counted =
    let le : client ≤ length draft.clients = omega (arith, is, place_within (λ other. bytes_eq other name) draft.clients) in
    let same : clients ≡ cond (client == length draft.clients) (draft.clients ++ name ∷ []) draft.clients =
    more ∙ ap (λ (n : ℕ). cond (n == length draft.clients) (draft.clients ++ name ∷ []) draft.clients) (sym is) in
    rw (same, counted) (noted-at draft counts opened client name (client == length draft.clients) t le room refl)

one_if : (a b : ℕ) → a ≡ b → ◌≡◌ {A = ℕ} (cond (a == b) 1 0) 1
one_if a b e = ap (λ (t : Bool). let n : ℕ = cond t 1 0 in n) (eq-eqb a b e)

none_if : (a b : ℕ) → (a ≡ b → ⊥) → ◌≡◌ {A = ℕ} (cond (a == b) 1 0) 0
none_if a b ne = ap (λ (t : Bool). let n : ℕ = cond t 1 0 in n) (ne_eqb a b ne)

counted-at : (draft : Draft) (counts : List ℕ) (client number : ℕ) (entry : Entry) (k : ℕ) → client < length counts → ((k : ℕ) → get_or counts k 0 ≡ count_in draft.entries (k + 1)) → entry.client ≡ client + 1
    → number ≡ count_in draft.entries (client + 1) → get_or (slice_set counts client (number + 1)) k 0 ≡ count_in (draft.entries ++ entry ∷ []) (k + 1)
counted-at draft counts client number entry k within counted of is =
    elim (eqb_tells client k) [
      | inl same ↦
          let one = one_if entry.client (k + 1) (omega arith) in
          let here : get_or (slice_set counts client (number + 1)) k 0 ≡ number + 1 = subst (λ (n : ℕ). get_or (slice_set counts client (number + 1)) n 0 ≡ number + 1) same.1 (get-set-same counts client (number + 1) within) in
          let before : count_in draft.entries (client + 1) ≡ count_in draft.entries (k + 1) = ap (λ (n : ℕ). count_in draft.entries (n + 1)) same.1 in
          omega (arith, one, here, before, is, count-more draft.entries entry (k + 1))
      | inr other ↦
          let none = none_if entry.client (k + 1) (λ e. other.1 (omega arith)) in
          omega (arith, none, get-set-other counts client k (number + 1) other.1, counted k, count-more draft.entries entry (k + 1))
    ]

-- the next line is counted, and the label that it opens is noted
pub tracked : (draft : Draft) (counts : List ℕ) (opened more : BTreeSet OpenedLabel) (clients : List (List ℕ)) (client number place : ℕ) (said : Said) → Noted draft clients client counts
    → clients ≡ with_client draft.clients said.client → number ≡ count_in draft.entries (client + 1)
    → ((other : ℕ) (label : List ℕ) → has_label opened other label ≡ is_opened draft.entries other (Some label)) → Opens opened more (client + 1) said.command
    → IsTracked (longer draft place client said) (slice_set counts client (number + 1)) more
tracked draft counts opened more clients client number place said n spoken is labelled opens = record {
  long = length-set-it counts client (number + 1) ∙ n.long ∙ ap length spoken;
  few = subst (λ (l : List (List ℕ)). length l ≤ 64) spoken n.few;
  counted = λ k. counted-at draft counts client number (next_entry draft place (client + 1) said) k (omega (arith, n.long, n.within)) n.counted refl is;
  labelled = λ other label. labelled-more draft.entries (next_entry draft place (client + 1) said) opened more labelled opens other label;
}
