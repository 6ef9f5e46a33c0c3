-- What became of the blocks that a line was granted stays so, as long as no more is said of them.
use Rattle.std.proofs.Common.{
  ◌≡◌,
  ◌⊎◌,
  inl,
  inr,
  ℕ,
  suc,
  Bool,
  true,
  false,
  not,
  ◌&&◌,
  ◌||◌,
  is_none,
  cond,
  List,
  [],
  ◌∷◌,
  ◌++◌,
  length,
  Option,
  None,
  Some,
  Contains,
  refl,
  sym,
  ap,
  ◌∙◌,
  subst,
  arith,
}
use Rattle.std.proofs.lemmas.Option.{none-some, same_Some}
use Rattle.std.proofs.lemmas.List.Elements.{Contains-append_left}
use Rattle.std.specs.Prelude.{count_by, nat_le}
use Rattle.std.specs.List.{list_all, list_any}
use Rattle.oz_script.specs.declared.lines.script.Script.{Script}
use Rattle.oz_nodes.specs.Pipelines.{members_of}
use Rattle.oz_requests.specs.declared.reply.Reply.{Reply}
use Rattle.oz_requests.specs.declared.reply.Reply.TheVariants as replies
use Rattle.oz_core.specs.declared.event.Event.{Event}
use Rattle.oz_core.specs.declared.event.EventKind.{EventKind}
use Rattle.oz_core.specs.declared.event.EventKind.TheVariants.{Decide}
use Rattle.oz_core.specs.declared.event.PutRefusal.{PutRefusal}
use Rattle.oz_core.specs.declared.opening.Opening.{Opening}
use Rattle.oz_core.specs.Asks.{is_of_line}
use Rattle.oz_core.specs.Contents.{OpeningBytes, written_for}
use Rattle.oz_core.specs.Nodes.{is_block}
use Rattle.oz_core.specs.Scm.{members}
use Rattle.oz_core.specs.Steps.{
  GrantedBlock,
  grant_in,
  grant_to,
  granted_to,
  is_abandoned,
  is_any,
  is_of_node,
  is_off,
  is_settled,
  is_written,
  refusing_members,
}
use Rattle.oz_steps.specs.declared.came.Attempt.{Attempt}
use Rattle.oz_steps.specs.declared.came.Granted.{Granted}
use Rattle.oz_steps.specs.declared.fate.Fate.{Fate}
use Rattle.oz_steps.specs.declared.fate.Fate.TheVariants as fates
use Rattle.oz_steps.specs.Grants.{AreAnswers, AreGrants, IsAttempt, IsFate, IsUnsettled, fate_of, has_fate_written, is_fate_written, refused_so}
use Rattle.oz_buffer.specs.Buffer.{AllFollow, Follows}
use Rattle.oz_buffer.specs.Became.{times_said}
use Rattle.oz_kept.specs.laws.Deleted.{found_at}
use Rattle.oz_kept.specs.reopened.laws.Named.{told_event}
use Rattle.oz_turn.specs.Told.{BeginsWith}
use Rattle.oz_underway.specs.laws.Asks.{of_line}
use Rattle.oz_underway.specs.laws.Blocks.{attempts_written, same_written, still_grants}
use Rattle.oz_underway.specs.laws.Going.{told_longer}
use Rattle.oz_underway.specs.laws.Grants.{its_members}
use Rattle.oz_underway.specs.laws.Said.{refused_stay, written_stay}

-- ---- a block that was granted to a line

pub record IsGrantOf (client line : ℕ) (story : List Event) (grant : GrantedBlock) : Type 0 where
  pub of : is_of_line client line grant.id ≡ true
  pub seat : ℕ
  pub index : ℕ
  pub batch : List ℕ
  pub there : Contains story (record { seat = seat; kind = Decide grant.id index (replies.Granted grant.block grant.pipeline) batch })

grant_is : (client line : ℕ) (story : List Event) (seat : ℕ) (kind : EventKind) (grant : GrantedBlock) → Contains story (record { seat = seat; kind = kind })
    → grant_to client line kind ≡ Some grant → IsGrantOf client line story grant
grant_is client line story seat (Decide id index reply batch) grant among is = by (is_of_line client line id) refl is
  where
    made : is_of_line client line id ≡ true → (given : Reply) → given ≡ reply → grant_in id given ≡ Some grant → IsGrantOf client line story grant
    made of (replies.Granted block pipeline) same it =
        let grants : ◌≡◌ {A = GrantedBlock} (record { id = id; block = block; pipeline = pipeline }) grant =
        same_Some (record { id = id; block = block; pipeline = pipeline }) grant it in
        subst (IsGrantOf client line story) grants
        (record {
          of = of;
          seat = seat;
          index = index;
          batch = batch;
          there = subst (λ (r : Reply). Contains story (record { seat = seat; kind = Decide id index r batch })) (sym same) among;
        })
    made of given same it = absurd (none-some grant it)

    by : (t : Bool) → is_of_line client line id ≡ t → cond t (grant_in id reply) None ≡ Some grant → IsGrantOf client line story grant
    by true of it = made of reply refl it
    by false away it = absurd (none-some grant it)
grant_is client line story seat kind grant among is = absurd (none-some grant is)

pub grant_of : (client line : ℕ) (story : List Event) (grant : GrantedBlock) → Contains (granted_to client line story) grant → IsGrantOf client line story grant
grant_of client line story grant among =
    let it = told_event (grant_to client line) story grant among in
    grant_is client line story it.event.seat it.event.kind grant it.there it.told

-- ---- a block that stands as before

pub record StandsAsBefore (opening : Opening) (seen story : List Event) (grant : GrantedBlock) : Type 0 where
  pub written : is_written story grant ≡ is_written seen grant
  pub refusing : (counts : PutRefusal → Bool) → refusing_members opening story counts grant ≡ refusing_members opening seen counts grant

module _ (opening : Opening) (seen story : List Event) where
  abandoned_still : (grant : GrantedBlock) → StandsAsBefore opening seen story grant → is_abandoned opening story grant ≡ is_abandoned opening seen grant
  abandoned_still grant alike = λ i. nat_le 2 (alike.refusing is_any i) && not (alike.written i)

  off_still : (grant : GrantedBlock) → StandsAsBefore opening seen story grant → is_off opening story grant ≡ is_off opening seen grant
  off_still grant alike = ap (nat_le 2) (alike.refusing is_of_node)

  pub settled_still : (grant : GrantedBlock) → StandsAsBefore opening seen story grant → is_settled opening story grant ≡ is_settled opening seen grant
  settled_still grant alike = λ i. alike.written i || abandoned_still grant alike i

  fate_still : (grant : GrantedBlock) → StandsAsBefore opening seen story grant → (fate : Fate) → IsFate opening seen grant fate
      → IsFate opening story grant fate
  fate_still grant alike fates.Written is = alike.written ∙ is
  fate_still grant alike fates.ContainerRefused is = (abandoned_still grant alike ∙ is.0, off_still grant alike ∙ is.1)
  fate_still grant alike fates.PipelineRefused is = (abandoned_still grant alike ∙ is.0, off_still grant alike ∙ is.1)

  pub grants_still : (attempts : List Attempt) (grants : List GrantedBlock)
      → ((grant : GrantedBlock) → Contains grants grant → StandsAsBefore opening seen story grant)
      → AreGrants opening seen attempts None grants → AreGrants opening story attempts None grants
  grants_still [] grants alike are = are
  grants_still (attempt ∷ attempts) grants alike (first, others, is, at, rest) =
      let here = alike first (subst (λ (l : List GrantedBlock). Contains l first) (sym is) (0, omega arith, refl)) in (
        first,
        others,
        is,
        record { block = at.block; pipeline = at.pipeline; fate = fate_still first here attempt.fate at.fate },
        grants_still attempts others
            (λ grant (k, lt, same). alike grant (subst (λ (l : List GrantedBlock). Contains l grant) (sym is) (suc k, omega (arith, lt), same)))
            rest,
      )

-- ---- one block more

pub one_granted : (opening : Opening) (story : List Event) (attempts : List Attempt) (grants : List GrantedBlock) (grant : GrantedBlock) (granted : Granted)
    → AreGrants opening story attempts None grants → IsUnsettled opening story grant granted
    → AreGrants opening story attempts (Some granted) (grants ++ grant ∷ [])
one_granted opening story [] grants grant granted are new = (grant, ap (λ (l : List GrantedBlock). l ++ grant ∷ []) are, new)
one_granted opening story (attempt ∷ attempts) grants grant granted (first, others, is, at, rest) new =
    (first, others ++ grant ∷ [], ap (λ (l : List GrantedBlock). l ++ grant ∷ []) is, at, one_granted opening story attempts others grant granted rest new)

module _ (Coherent : Type 0) (opening : Opening) (bytes : OpeningBytes) (script : Script) where
  abbrev Follow : List Event → Event → Type 0
  Follow = Follows Coherent opening bytes script

  pub grant_members : (client line : ℕ) (story : List Event) (grant : GrantedBlock) → Coherent → AllFollow Follow [] story → IsGrantOf client line story grant
      → members opening story grant.block.container ≡ members_of (length opening.nodes) grant.pipeline
  grant_members client line story grant coherent all its =
      let event : Event = record { seat = its.seat; kind = Decide grant.id its.index (replies.Granted grant.block grant.pipeline) its.batch } in
      its_members Coherent opening bytes script story coherent all its.there.0 its.seat its.index grant.pipeline grant.id grant.block its.batch
      (found_at story event its.there)

  -- nothing was said of it since
  pub quiet_stands : (client line : ℕ) (seen story : List Event) (grant : GrantedBlock) → Coherent → AllFollow Follow [] seen → AllFollow Follow [] story
      → BeginsWith story seen
      → times_said client line story ≡ times_said client line seen → Contains (granted_to client line seen) grant → StandsAsBefore opening seen story grant
  quiet_stands client line seen story grant coherent before all begins same among =
      let its = grant_of client line seen grant among in
      let ids = of_line client line grant.id its.of in
      let later : Contains (granted_to client line story) grant =
      subst (λ (l : List GrantedBlock). Contains l grant) (sym (told_longer (grant_to client line) story seen begins))
      (Contains-append_left (granted_to client line seen) (granted_to client line begins.0) grant among) in
      let moved = grant_members client line story grant coherent all (grant_of client line story grant later)
      ∙ sym (grant_members client line seen grant coherent before its) in
      record {
        written =
            ap (list_any (is_block grant.block))
            (subst (λ (c : ℕ). written_for c grant.id.line story ≡ written_for c grant.id.line seen) (sym ids.0)
            (subst (λ (l : ℕ). written_for client l story ≡ written_for client l seen) (sym ids.1) (written_stay client line seen story begins same)));
        refusing = λ counts i. count_by (λ (dn : ℕ). refused_stay client line dn counts grant its.of seen story begins same i) (moved i);
      }

  -- so it is of all that a line was granted, where nothing more was granted: since each was written, or nothing more was said
  pub record StillSettled (client line : ℕ) (seen story : List Event) (attempts : List Attempt) : Type 0 where
    pub grants : AreGrants opening story attempts None (granted_to client line story)
    pub written : written_for client line story ≡ written_for client line seen

  pub stays_settled : (client line : ℕ) (seen story : List Event) (attempts : List Attempt) → Coherent → AllFollow Follow [] seen
      → AllFollow Follow [] story → BeginsWith story seen
      → AreGrants opening seen attempts None (granted_to client line seen) → granted_to client line story ≡ granted_to client line seen
      → (list_all has_fate_written attempts ≡ true) ⊎ (times_said client line story ≡ times_said client line seen)
      → StillSettled client line seen story attempts
  stays_settled client line seen story attempts coherent before all begins are same (inl each) = record {
    grants = subst (AreGrants opening story attempts None) (sym same) (still_grants opening story seen attempts (granted_to client line seen) begins each are);
    written =
        same_written Coherent opening bytes script client line story seen coherent all begins
        (attempts_written opening seen attempts (granted_to client line seen) each are) same;
  }
  stays_settled client line seen story attempts coherent before all begins are same (inr quiet) = record {
    grants =
        subst (AreGrants opening story attempts None) (sym same)
        (grants_still opening seen story attempts (granted_to client line seen)
        (λ grant among. quiet_stands client line seen story grant coherent before all begins quiet among) are);
    written = written_stay client line seen story begins quiet;
  }

-- ---- what three answers come to

two_of_three : (one two three : Option PutRefusal) → nat_le 2 (count_by is_none (one ∷ two ∷ three ∷ [])) ≡ false
    → nat_le 2 (count_by (refused_so is_any) (one ∷ two ∷ three ∷ [])) ≡ true
two_of_three None None None few = sym few
two_of_three None None (Some c) few = sym few
two_of_three None (Some b) None few = sym few
two_of_three None (Some b) (Some c) few = refl
two_of_three (Some a) None None few = sym few
two_of_three (Some a) None (Some c) few = refl
two_of_three (Some a) (Some b) None few = refl
two_of_three (Some a) (Some b) (Some c) few = refl

module _ (opening : Opening) (story : List Event) (grant : GrantedBlock) (one two three : Option PutRefusal)
    (are : AreAnswers opening story grant (one ∷ two ∷ three ∷ [])) where
  given_up : nat_le 2 (count_by is_none (one ∷ two ∷ three ∷ [])) ≡ false → is_abandoned opening story grant ≡ true
  given_up few =
      let refused = ap (nat_le 2) (are.refused is_any) ∙ two_of_three one two three few in
      let unwritten = are.written ∙ few in
      λ i. refused i && not (unwritten i)

  by_counts : (puts off : Bool) → nat_le 2 (count_by is_none (one ∷ two ∷ three ∷ [])) ≡ puts
      → nat_le 2 (count_by (refused_so is_of_node) (one ∷ two ∷ three ∷ [])) ≡ off
      → IsFate opening story grant (cond puts fates.Written (cond off fates.PipelineRefused fates.ContainerRefused))
  by_counts true off put gone = are.written ∙ put
  by_counts false true put gone = (given_up put, ap (nat_le 2) (are.refused is_of_node) ∙ gone)
  by_counts false false put gone = (given_up put, ap (nat_le 2) (are.refused is_of_node) ∙ gone)

  pub its_fate : IsFate opening story grant (fate_of (one ∷ two ∷ three ∷ []))
  its_fate = by_counts (nat_le 2 (count_by is_none (one ∷ two ∷ three ∷ []))) (nat_le 2 (count_by (refused_so is_of_node) (one ∷ two ∷ three ∷ []))) refl refl

pub written_by_two : (answers : List (Option PutRefusal)) (two : Bool) → nat_le 2 (count_by is_none answers) ≡ two → is_fate_written (fate_of answers) ≡ two
written_by_two answers two is = by (nat_le 2 (count_by is_none answers)) refl (nat_le 2 (count_by (refused_so is_of_node) answers)) ∙ is
  where
    by : (puts : Bool) → nat_le 2 (count_by is_none answers) ≡ puts → (off : Bool)
        → is_fate_written (cond puts fates.Written (cond off fates.PipelineRefused fates.ContainerRefused)) ≡ puts
    by true put off = refl
    by false put true = refl
    by false put false = refl

-- ---- the block that is being written

-- the last that was granted; those before are settled
pub record IsLastOf (opening : Opening) (story : List Event) (attempts : List Attempt) (granted : Granted) (grants : List GrantedBlock) : Type 0 where
  pub earlier : List GrantedBlock
  pub grant : GrantedBlock
  pub parts : grants ≡ earlier ++ grant ∷ []
  pub unsettled : IsUnsettled opening story grant granted
  pub before : AreGrants opening story attempts None earlier

pub last_of : (opening : Opening) (story : List Event) (attempts : List Attempt) (granted : Granted) (grants : List GrantedBlock)
    → AreGrants opening story attempts (Some granted) grants → IsLastOf opening story attempts granted grants
last_of opening story [] granted grants (grant, is, unsettled) = record { earlier = []; grant = grant; parts = is; unsettled = unsettled; before = refl }
last_of opening story (attempt ∷ attempts) granted grants (first, others, is, at, rest) =
    let last = last_of opening story attempts granted others rest in
    record {
      earlier = first ∷ last.earlier;
      grant = last.grant;
      parts = is ∙ ap (λ (l : List GrantedBlock). first ∷ l) last.parts;
      unsettled = last.unsettled;
      before = (first, last.earlier, refl, at, last.before);
    }

pub one_attempt : (opening : Opening) (story : List Event) (attempts : List Attempt) (grants : List GrantedBlock) (grant : GrantedBlock) (attempt : Attempt)
    → AreGrants opening story attempts None grants → IsAttempt opening story grant attempt
    → AreGrants opening story (attempts ++ attempt ∷ []) None (grants ++ grant ∷ [])
one_attempt opening story [] grants grant attempt are at = (grant, [], ap (λ (l : List GrantedBlock). l ++ grant ∷ []) are, at, refl)
one_attempt opening story (one ∷ attempts) grants grant attempt (first, others, is, here, rest) at =
    (first, others ++ grant ∷ [], ap (λ (l : List GrantedBlock). l ++ grant ∷ []) is, here, one_attempt opening story attempts others grant attempt rest at)
