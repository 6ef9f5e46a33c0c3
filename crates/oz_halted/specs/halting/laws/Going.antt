-- What a datanode leaves as the story goes on, and from the first moment on.
use Rattle.std.proofs.Common.{◌≡◌, ◌≢◌, ℕ, zero, suc, Bool, true, false, List, [], ◌∷◌, ◌++◌, Option, None, Some}
use Rattle.std.proofs.Common.{IsSome, is_some, Contains, cond, inl, inr, refl, sym, ◌∙◌, ap, subst, append_assoc}
use Rattle.std.proofs.Common.{arith}
use Rattle.std.proofs.lemmas.List.Elements.{Contains-append_left}
use Rattle.std.specs.List.{cons_option, filter_map, flat_map, slice_get}
use Rattle.std.specs.Option.{option_map_or}
use Rattle.oz_fields.specs.declared.block.Block.{Block}
use Rattle.oz_fields.specs.declared.block.Piece.{Piece}
use Rattle.oz_script.specs.declared.lines.script.Script.{Script}
use Rattle.oz_model.specs.laws.Members.{joins, passing}
use Rattle.oz_entries.specs.declared.entry.Entry.{Entry}
use Rattle.oz_entries.specs.declared.entry.Entry.TheVariants as entries
use Rattle.oz_entries.specs.declared.row.BlockRow.{BlockRow}
use Rattle.oz_entries.specs.Node.{Node, is_held, after_entry}
use Rattle.oz_core.specs.declared.event.Event.{Event}
use Rattle.oz_core.specs.declared.event.EventKind.TheVariants.{Halt, Put, Copy, Delete}
use Rattle.oz_core.specs.declared.event.Node.TheVariants.{Datanode}
use Rattle.oz_core.specs.declared.opening.NodeOpening.{NodeOpening}
use Rattle.oz_core.specs.declared.opening.Opening.{Opening}
use Rattle.oz_core.specs.Coherent.{IsCoherent}
use Rattle.oz_core.specs.Contents.{OpeningBytes}
use Rattle.oz_core.specs.Fits.{EventFits, FitsFrom}
use Rattle.oz_core.specs.Law.{IsLegal, IsEnabled}
use Rattle.oz_core.specs.Nodes.{is_block, has_piece, was_held, length_in}
use Rattle.oz_core.specs.Seats.{datanode_seat}
use Rattle.oz_kept.specs.laws.Contents.{one_block}
use Rattle.oz_kept.specs.reopened.Left.{lengths_of}
use Rattle.oz_halted.specs.Missing.{LogIsNumbered}
use Rattle.oz_halted.specs.halting.Leaves.{GivenBytes, GivesContents, IsOpenedOf, Leaves, NodeHalted, Remains, Rests}
use Rattle.oz_halted.specs.halting.Story.{IsOfStory, IsAllowed, WasToMake}
use Rattle.oz_halted.specs.halting.laws.Making.{of_unchanged, of_put, of_copy, of_delete, same_but_for_a_state, dropped_is_the_same}
use Rattle.oz_halted.specs.halting.laws.Unchanged.{changes, others_change_nothing}
use Rattle.oz_halted.specs.laws.Lasting.{content_behind}
use Rattle.oz_halted.specs.laws.Resting.{fits_on, legal_on}

-- ---- one event more

module _ (opening : Opening) (bytes : OpeningBytes) (script : Script) (before : List Event) (legal : IsLegal opening before)
    (fits : FitsFrom opening bytes script [] before) (event : Event) (enabled : IsEnabled opening before event)
    (its_fit : EventFits opening bytes script before event.kind) where
  abbrev then : List Event
  then = before ++ event ∷ []

  -- what is a block's content stays so
  pub contents_last : (node : Node) (given : GivenBytes) → GivesContents opening bytes script before node given
      → GivesContents opening bytes script then node given
  contents_last node given contents block held =
      let has = contents block held in
      let legal_then = legal_on opening [] before event legal enabled in
      let fits_then = fits_on opening bytes script [] before event fits its_fit in
      record {
        content = has.content;
        its = content_behind opening bytes script before (event ∷ []) legal_then fits_then block has.content has.its;
        gives = has.gives;
      }

  -- An event that changes nothing on its disks: one of another seat is such.
  pub rests_still : (dn : ℕ) → LogIsNumbered opening → changes dn event.kind ≡ false → (remains : Remains)
      → Rests opening bytes script before dn remains → Rests opening bytes script then dn remains
  rests_still dn numbered none remains rests = record {
    was = rests.was;
    stands = of_unchanged opening numbered before legal dn event.seat event.kind enabled none rests.was rests.stands;
    kept = rests.kept;
    contents = λ node given remain. contents_last node given (rests.contents node given remain);
  }

  pub rests_beside : (dn : ℕ) → LogIsNumbered opening → event.seat ≢ datanode_seat dn → (remains : Remains)
      → Rests opening bytes script before dn remains → Rests opening bytes script then dn remains
  rests_beside dn numbered other remains rests =
      rests_still dn numbered (others_change_nothing dn opening before event.seat event.kind enabled other) remains rests

  -- one that changes them, where a stop leaves what it makes
  pub rests_anew : (dn : ℕ) (node : Node) → IsOfStory opening then dn node → (remains : Remains)
      → ((kept : Node) (given : GivenBytes) → remains kept given → kept ≡ node)
      → ((kept : Node) (given : GivenBytes) → remains kept given → GivesContents opening bytes script before kept given)
      → Rests opening bytes script then dn remains
  rests_anew dn node is remains same contents = record {
    was = node;
    stands = is;
    kept = same;
    contents = λ kept given remain. contents_last kept given (contents kept given remain);
  }

-- ---- what one entry more comes to

-- an entry that it was to make gives a node that the law allows
pub entry_is_allowed : (opening : Opening) (bytes : OpeningBytes) (script : Script) → LogIsNumbered opening → (before : List Event)
    → IsLegal opening before → (dn : ℕ) (was : Node) → IsOfStory opening before dn was → (entry : Entry)
    → WasToMake opening bytes script before dn was entry → IsAllowed opening bytes script before dn was (after_entry entry was)
entry_is_allowed opening bytes script numbered before legal dn was is (entries.Put block row) (inl put) = inl (record {
  further = Put dn block put.id put.first row.length;
  enabled = put.enabled;
  content = put.content;
  is = of_put opening numbered before legal dn (datanode_seat dn) was is block put.id put.first row put.enabled;
})
entry_is_allowed opening bytes script numbered before legal dn was is (entries.Put block row) (inr copy) = inl (record {
  further = Copy copy.source dn block;
  enabled = copy.enabled;
  content = tt;
  is = of_copy opening numbered before legal dn (datanode_seat dn) was is copy.source block row copy.enabled copy.told;
})
entry_is_allowed opening bytes script numbered before legal dn was is (entries.SetState container state) made =
    inr (container, same_but_for_a_state container state was)
entry_is_allowed opening bytes script numbered before legal dn was is (entries.Apply txn) apply = inl (record {
  further = Delete dn txn.number apply.locals;
  enabled = apply.enabled;
  content = tt;
  is = subst
      (λ t. IsOfStory opening (before ++ record { seat = datanode_seat dn; kind = Delete dn txn.number apply.locals } ∷ []) dn
      (after_entry (entries.Apply t) was)) apply.its
      (of_delete opening numbered before legal dn (datanode_seat dn) was is txn.number apply.locals apply.enabled);
})
entry_is_allowed opening bytes script numbered before legal dn was is (entries.Drop container) none =
    inr (container, dropped_is_the_same container was none)

-- ---- from rest to a halt

pub leaves_what_rests : (opening : Opening) (bytes : OpeningBytes) (script : Script) (story : List Event) (dn : ℕ) (remains : Remains)
    → Rests opening bytes script story dn remains → Leaves opening bytes script story dn remains
leaves_what_rests opening bytes script story dn remains rests = record {
  was = rests.was;
  stands = rests.stands;
  entry = None;
  to_make = tt;
  kept = rests.kept;
  contents = rests.contents;
}

pub halts : (opening : Opening) (bytes : OpeningBytes) (script : Script) (before : List Event) (dn count : ℕ) (remains : Remains)
    → Leaves opening bytes script before dn remains
    → NodeHalted opening bytes script (before ++ record { seat = datanode_seat dn; kind = Halt (Datanode dn) count } ∷ []) dn remains
halts opening bytes script before dn count remains leaves = record {
  before = before;
  behind = [];
  count = count;
  parts = refl;
  left = inl leaves;
}

-- whatever comes then, it has halted so
pub halted_so : (opening : Opening) (bytes : OpeningBytes) (script : Script) (story more : List Event) (dn : ℕ) (remains : Remains)
    → NodeHalted opening bytes script story dn remains → NodeHalted opening bytes script (story ++ more) dn remains
halted_so opening bytes script story more dn remains halted = record {
  before = halted.before;
  behind = halted.behind ++ more;
  count = halted.count;
  parts = ap (λ (l : List Event). l ++ more) halted.parts
      ∙ append_assoc halted.before (record { seat = datanode_seat dn; kind = Halt (Datanode dn) halted.count } ∷ halted.behind) more;
  left = halted.left;
}

-- ---- as a run begins

some_bytes : (o : Option (List ℕ)) → IsSome o → (content : List ℕ) × (o ≡ Some content)
some_bytes None some = absurd cc
some_bytes (Some content) some = (content, refl)

got_there : {A : Type 0} (l : List A) (k : ℕ) (x : A) → slice_get l k ≡ Some x → Contains l x
got_there [] k x e = absurd cc
got_there (y ∷ l) zero x e = let same : y ≡ x = cc in (0, omega arith, same)
got_there (y ∷ l) (suc k) x e = let later = got_there l k x e in (suc later.0, omega (arith, later.1), later.2)

given_among : {A B : Type 0} (f : A → Option B) (l : List A) (x : A) (y : B) → Contains l x → f x ≡ Some y → Contains (filter_map f l) y
given_among f [] x y among is = absurd (omega (arith, among.1))
given_among {A} {B} f (first ∷ l) x y (zero, lt, same) is =
    subst (λ (o : Option B). Contains (cons_option o (filter_map f l)) y) (sym (ap f same ∙ is)) (0, omega arith, refl)
given_among {A} {B} f (first ∷ l) x y (suc k, lt, same) is = by (f first) (given_among f l x y (k, omega (arith, lt), same) is)
  where
    by : (o : Option B) → Contains (filter_map f l) y → Contains (cons_option o (filter_map f l)) y
    by None later = later
    by (Some z) (j, in_range, at) = (suc j, omega (arith, in_range), at)

module _ (opening : Opening) (bytes : OpeningBytes) (dn : ℕ) (node : Node) (given : GivenBytes)
    (opened : IsOpenedOf opening bytes dn node given) where
  length_had : (block : Block) (row : BlockRow) → node.rows block ≡ Some row → Contains (lengths_of opening [] block) row.length
  length_had block row there =
      let held : was_held opening dn block ≡ true = opened.held block ∙ ap (λ (o : Option BlockRow). is_some o) there in
      let has : has_piece block opened.opened ≡ true =
      sym (ap (λ (o : Option NodeOpening). option_map_or (has_piece block) o false) opened.there) ∙ held in
      let found = passing (λ (piece : Piece). is_block block piece.block) opened.opened.held has in
      let same : block ≡ found.item.block = one_block block found.item.block found.so in
      let length : found.item.length ≡ row.length =
      opened.lengths found.item row found.there (ap node.rows (sym same) ∙ there) in
      let among : Contains (length_in block opened.opened) found.item.length =
      given_among (λ (piece : Piece). cond (is_block block piece.block) (Some piece.length) None) opened.opened.held found.item found.item.length found.there
      (ap (λ (t : Bool). cond t (Some found.item.length) None) found.so) in
      subst (λ (n : ℕ). Contains (lengths_of opening [] block) n) length
      (Contains-append_left (flat_map (length_in block) opening.nodes) [] found.item.length
      (joins (length_in block) opening.nodes opened.opened found.item.length (got_there opening.nodes dn opened.opened opened.there) among))

  -- what an opening has of a datanode is what no event makes of it
  pub of_no_event : IsOfStory opening [] dn node
  of_no_event = record {
    held = λ block. sym (opened.held block);
    lengths = length_had;
    closed = λ container. sym (opened.closed container);
    greatest = λ container. sym (opened.greatest container);
  }

  pub gives_what_was_there : (script : Script) → IsCoherent opening bytes → GivesContents opening bytes script [] node given
  gives_what_was_there script coherent block held =
      let was : was_held opening dn block ≡ true = opened.held block ∙ held in
      let had = some_bytes (bytes dn block) (coherent.blocks.digests_match block dn was) in
      record {
        content = had.0;
        its = inl (record { dn = dn; held = was; are = had.1 });
        gives = sym (opened.gives block held) ∙ had.1;
      }

  -- So a datanode rests whose disks are stable: a stop leaves just what was loaded.
  pub rests_at_first : (script : Script) → IsCoherent opening bytes → (remains : Remains)
      → ((kept : Node) (gives : GivenBytes) → remains kept gives → kept ≡ node)
      → ((kept : Node) (gives : GivenBytes) → remains kept gives → (block : Block) → is_held node block ≡ true → gives block ≡ given block)
      → Rests opening bytes script [] dn remains
  rests_at_first script coherent remains same alike = record {
    was = node;
    stands = of_no_event;
    kept = same;
    contents = λ kept gives remain block held.
        let here : is_held node block ≡ true = ap (λ (n : Node). is_held n block) (sym (same kept gives remain)) ∙ held in
        let has = gives_what_was_there script coherent block here in
        record { content = has.content; its = has.its; gives = alike kept gives remain block here ∙ has.gives };
  }
