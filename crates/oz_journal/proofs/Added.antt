-- A journal's disk before and after a record was put behind its gate.
use Rattle.std.proofs.Common.{◌≡◌, ℕ, ◌+◌, ◌-◌, ◌^◌, ◌<◌, ◌≤◌, List, [], ◌∷◌, ◌++◌, length, drop, length-take, length-drop, Option, None, Some, refl, sym, ◌∙◌, ap, subst, arith}
use Rattle.std.specs.Option.{option_map, IfSome}
use Rattle.oz_world.specs.Disk.{Images, IsStable, overwritten}
use Rattle.oz_journal.specs.Grammar.{sized, records, AreRecords, IsJournal, TellsBodies, with_body}
use Rattle.oz_journal.specs.Journal.{body_of, IsBeforeOrAfter}
use Rattle.oz_journal.specs.inner.Rest.{IsAtRest}
use Rattle.oz_journal.specs.inner.Parts.{IsPartOf}
use Rattle.oz_world.specs.Moments.{LeavesOnly}
use Rattle.oz_journal.proofs.Opens.{stable_at}
use Rattle.oz_journal.proofs.Adds.{journal_of_records, records_of_journal, told_of, stands_by, gate_within, both_done, after_row, next_place, part_leaves}

pub body_small : (framed : List ℕ) → length framed ≤ 4294967300 → length (body_of framed) < 2 ^ 32
body_small framed most = omega (arith, length-take (length framed - 5) (drop 4 framed), length-drop 4 framed)

-- what holds of each content that is told
of_told : (told : Option (List ℕ)) (P : List ℕ → Type 0) → ((bytes : List ℕ) → told ≡ Some bytes → P bytes) → IfSome told P
of_told None P each = tt
of_told (Some bytes) P each = each bytes refl

pub gate_there : (told : Option (List ℕ)) (gate : ℕ) (image : Images) (now : ℕ) → ((bytes : List ℕ) → told ≡ Some bytes → IsAtRest bytes gate image now) → IfSome told (λ bytes. gate < length bytes)
gate_there told gate image now rests =
    of_told told (λ bytes. gate < length bytes) (λ bytes tells. let rest = rests bytes tells in omega (arith, rest.place, gate_within bytes rest.bodies rest.grammar [] (omega arith)))

-- a disk that tells its bytes after two writes told them before
told_before : (told after : Option (List ℕ)) (one two : List ℕ → List ℕ) (left : List ℕ) → after ≡ option_map two (option_map one told) → after ≡ Some left → (bytes : List ℕ) × (told ≡ Some bytes)
told_before None after one two left is some = absurd (cc (is, some))
told_before (Some bytes) after one two left is some = (bytes, refl)

module _ (told after : Option (List ℕ)) (gate : ℕ) (image : Images) (now : ℕ) (rests : (bytes : List ℕ) → told ≡ Some bytes → IsAtRest bytes gate image now) (body framed : List ℕ) (small : length body < 2 ^ 32) (is : framed ≡ sized body ++ 0 ∷ []) where
  -- what it stood for is what it stands for at rest
  abbrev Written : Type 0
  Written = after ≡ option_map (overwritten gate (1 ∷ [])) (option_map (overwritten (gate + 1) framed) told)

  pub contents_after : Written → (bytes : List ℕ) (bodies : List (List ℕ)) → told ≡ Some bytes → IsJournal bytes bodies → after ≡ Some (with_body bodies body bytes)
  contents_after written bytes bodies tells journal =
      let rest = rests bytes tells in
      let same = records_of_journal bytes rest.bodies bodies rest.grammar journal in
      let done : overwritten gate (1 ∷ []) (overwritten (gate + 1) framed bytes) ≡ with_body rest.bodies body bytes =
      ap (λ (n : ℕ). overwritten n (1 ∷ []) (overwritten (n + 1) framed bytes)) rest.place
      ∙ (ap (λ (l : List ℕ). overwritten (length (records rest.bodies)) (1 ∷ []) (overwritten (length (records rest.bodies) + 1) l bytes)) is ∙ both_done bytes rest.bodies rest.grammar body small) in
      written
      ∙ (ap (λ (o : Option (List ℕ)). option_map (overwritten gate (1 ∷ [])) (option_map (overwritten (gate + 1) framed) o)) tells
      ∙ ap (λ (l : List ℕ). Some l) (done ∙ ap (λ (l : List (List ℕ)). with_body l body bytes) (sym same)))

  pub bodies_after : Written → (bodies : List (List ℕ)) → TellsBodies told bodies → TellsBodies after (bodies ++ body ∷ [])
  bodies_after written bodies stands =
      let tells = told_of told bodies stands in
      let rest = rests tells.0 tells.1 in
      let same = records_of_journal tells.0 rest.bodies bodies rest.grammar tells.2 in
      let row = after_row tells.0 rest.bodies rest.grammar body small in
      stands_by after (with_body bodies body tells.0) (bodies ++ body ∷ []) (contents_after written tells.0 bodies tells.1 tells.2)
      (subst (λ (l : List (List ℕ)). IsJournal (with_body l body tells.0) (l ++ body ∷ [])) (sym same) (journal_of_records (with_body rest.bodies body tells.0) (rest.bodies ++ body ∷ []) row))

  pub rests_after : (later : Images) (to : ℕ) → Written → IfSome after (IsStable later to) → (left : List ℕ) → after ≡ Some left → IsAtRest left (gate + length framed) later to
  rests_after later to written stable left is_after =
      let tells = told_before told after (overwritten (gate + 1) framed) (overwritten gate (1 ∷ [])) left written is_after in
      let rest = rests tells.0 tells.1 in
      let contents = contents_after written tells.0 rest.bodies tells.1 (journal_of_records tells.0 rest.bodies rest.grammar) in
      let same : left ≡ with_body rest.bodies body tells.0 = cc (is_after, contents) in
      record {
        bodies = rest.bodies ++ body ∷ [];
        grammar = subst (λ (l : List ℕ). AreRecords l (rest.bodies ++ body ∷ [])) (sym same) (after_row tells.0 rest.bodies rest.grammar body small);
        place =
            ap (λ (n : ℕ). n + length framed) rest.place
            ∙ (ap (λ (l : List ℕ). length (records rest.bodies) + length l) is ∙ next_place tells.0 rest.bodies rest.grammar body small);
        stable = stable_at after left later to is_after stable;
      }

  pub moments_after : (later : Images) (from to : ℕ) → ((bytes : List ℕ) → told ≡ Some bytes → IsStable image now bytes → LeavesOnly (IsPartOf gate framed bytes) from to later) → (bodies : List (List ℕ)) → TellsBodies told bodies → LeavesOnly (IsBeforeOrAfter bodies body) from to later
  moments_after later from to moments bodies stands t left begins ends h =
      let tells = told_of told bodies stands in
      let rest = rests tells.0 tells.1 in
      let same = records_of_journal tells.0 rest.bodies bodies rest.grammar tells.2 in
      let part : IsPartOf gate framed tells.0 left = moments tells.0 tells.1 rest.stable t left begins ends h in
      let placed : IsPartOf (length (records rest.bodies)) (sized body ++ 0 ∷ []) tells.0 left =
      subst (λ (l : List ℕ). IsPartOf (length (records rest.bodies)) l tells.0 left) is (subst (λ (n : ℕ). IsPartOf n framed tells.0 left) rest.place part) in
      subst (λ (l : List (List ℕ)). IsBeforeOrAfter l body left) (sym same) (part_leaves tells.0 rest.bodies rest.grammar body small left placed)

  -- once both writes are stable, what a stop leaves has the body
  pub acknowledged_after : Written → (later : Images) (to : ℕ) → IfSome after (IsStable later to) → (bodies : List (List ℕ)) → TellsBodies told bodies → (left : List ℕ) → later to left → IsJournal left (bodies ++ body ∷ [])
  acknowledged_after written later to stable bodies stands left h =
      let tells = told_of after (bodies ++ body ∷ []) (bodies_after written bodies stands) in
      let same : left ≡ tells.0 = stable_at after tells.0 later to tells.1 stable left h in
      subst (λ (l : List ℕ). IsJournal l (bodies ++ body ∷ [])) (sym same) tells.2
