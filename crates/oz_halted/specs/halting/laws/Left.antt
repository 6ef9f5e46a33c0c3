-- What a datanode that halted leaves is what the law allows.
use Rattle.std.proofs.Common.{◌≡◌, ◌⊎◌, ℕ, ◌==◌, Bool, true, false, ◌&&◌, List, [], ◌∷◌, ◌++◌, length, map, Option}
use Rattle.std.proofs.Common.{None, Some, is_some, Contains, inl, inr, refl, sym, ◌∙◌, ap, subst, take_all}
use Rattle.std.proofs.Common.{append-nil, arith}
use mathlib.Core.Bool.{false≢true}
use Rattle.std.proofs.lemmas.Bool.{eq-eqb}
use Rattle.std.proofs.lemmas.List.Elements.{filter_map-append}
use Rattle.std.specs.Prelude.{IfSome}
use Rattle.std.specs.List.{cons_option, slice_get}
use Rattle.std.specs.Option.{option_map_or}
use Rattle.oz_command.specs.declared.command.AdminCommand.TheVariants as admin
use Rattle.oz_dellog.specs.declared.txn.Txn.{Txn}
use Rattle.oz_fields.specs.declared.block.Block.{Block}
use Rattle.oz_fields.specs.declared.block.Piece.{Piece}
use Rattle.oz_script.specs.declared.lines.script.Script.{Script}
use Rattle.oz_entries.specs.declared.entry.Entry.{Entry}
use Rattle.oz_entries.specs.declared.entry.Entry.TheVariants as entries
use Rattle.oz_entries.specs.declared.row.BlockRow.{BlockRow}
use Rattle.oz_entries.specs.Node.{Node, is_held, after_entry}
use Rattle.oz_core.specs.declared.event.Event.{Event}
use Rattle.oz_core.specs.declared.event.EventKind.{EventKind}
use Rattle.oz_core.specs.declared.event.EventKind.TheVariants.{Halt, Put, Copy, Delete}
use Rattle.oz_core.specs.declared.event.Node.TheVariants.{Datanode}
use Rattle.oz_core.specs.declared.opening.NodeOpening.{NodeOpening}
use Rattle.oz_core.specs.declared.opening.Opening.{Opening}
use Rattle.oz_core.specs.declared.opening.Unretired.{Unretired}
use Rattle.oz_core.specs.Coherent.{IsCoherent}
use Rattle.oz_core.specs.Contents.{OpeningBytes}
use Rattle.oz_core.specs.Fits.{EventFits, FitsFrom, IsAtWork}
use Rattle.oz_core.specs.Law.{IsLegal, IsLegalFrom, KindIsEnabled, puts_or_copies}
use Rattle.oz_core.specs.Nodes.{is_block, has_piece, was_held, holds}
use Rattle.oz_core.specs.Scm.{logs, logged}
use Rattle.oz_core.specs.Seats.{datanode_seat}
use Rattle.oz_core.specs.Stories.{all_told, has_event}
use Rattle.oz_kept.specs.Held.{LinesAreApart, HadAtOpening, HavingFrom, HasBytes}
use Rattle.oz_kept.specs.reopened.Left.{lengths_of, GivesBack, IsLeftByNode}
use Rattle.oz_kept.specs.laws.Places.{moved_over, legal_behind, legal_rest}
use Rattle.oz_kept.specs.laws.Contents.{GotIt, HasIts, at_each, fits_to, holder_got, one_content}
use Rattle.oz_kept.specs.laws.Deleted.{legal_to, one_passes}
use Rattle.oz_halted.specs.Further.{PutsContent, MayBeLeftByNode}
use Rattle.oz_halted.specs.Missing.{LogIsNumbered}
use Rattle.oz_halted.specs.halting.Leaves.{GivenBytes, GivesContents, IsOpenedOf, Leaves, MayHaveEntry, NodeHalted, Remains}
use Rattle.oz_halted.specs.halting.Story.{IsOfStory, AreSameButForAState, WasToMake}
use Rattle.oz_halted.specs.halting.laws.Making.{of_put, of_copy, of_delete, same_but_for_a_state, dropped_is_the_same}
use Rattle.oz_halted.specs.halting.laws.OneLog.{AreApart, of_story_still}
use Rattle.oz_halted.specs.halting.laws.Unchanged.{changes, nothing_behind_a_halt}
use Rattle.oz_halted.specs.halting.laws.Usual.{usual, usual_is_opened, is_same}
use Rattle.oz_halted.specs.laws.Lasting.{content_behind, has_still, has_in_parts}
use Rattle.oz_halted.specs.laws.Numbered.{are_numbered}
use Rattle.oz_halted.specs.laws.Resting.{IsHalted, fits_on, last_count, halted_by, halted_still, legal_on, node_rests}

row_there : (o : Option BlockRow) → is_some o ≡ true → (row : BlockRow) × (o ≡ Some row)
row_there None e = absurd (false≢true e)
row_there (Some row) e = (row, refl)

one_node : (a b : NodeOpening) → Some a ≡ Some b → a ≡ b
one_node a b e = cc

-- it halted before, so it has
pub halted_in : (dn : ℕ) (behind before : List Event) → IsHalted (Datanode dn) before → IsHalted (Datanode dn) (before ++ behind)
halted_in dn [] before halted = subst (IsHalted (Datanode dn)) (sym (append-nil before)) halted
halted_in dn (event ∷ behind) before halted =
    subst (IsHalted (Datanode dn)) (moved_over before behind event)
    (halted_in dn behind (before ++ event ∷ []) (halted_still (Datanode dn) before event halted))

module _ (opening : Opening) (bytes : OpeningBytes) (script : Script) (coherent : IsCoherent opening bytes) (apart : LinesAreApart script)
    (dn : ℕ) where
  -- ---- what is left behind a legal story, where the datanode changes nothing any more

  module _ (front behind : List Event) (legal : IsLegal opening front) (fits : FitsFrom opening bytes script [] front)
      (one_log : AreApart (logs opening (front ++ behind))) (none : has_event (changes dn) behind ≡ false)
      (gets_none : (block : Block) → has_event (puts_or_copies dn block) behind ≡ false) where
    abbrev whole : List Event
    whole = front ++ behind

    -- what is its content it has been given
    bytes_of_content : (block : Block) (content : List ℕ) → GotIt opening front block dn → (its : HasIts opening bytes script front block dn)
        → its.content ≡ content → HasBytes opening bytes script whole block dn content
    bytes_of_content block content got its same =
        has_in_parts script block dn content front behind (HadAtOpening opening bytes block)
        (has_still script block dn content behind (HavingFrom script block (HadAtOpening opening bytes block) front) (gets_none block)
        (subst (λ (c : List ℕ). HasBytes opening bytes script front block dn c) same its.has))

    module _ (node : Node) (given : GivenBytes) (is : IsOfStory opening front dn node)
        (contents : GivesContents opening bytes script front node given) (left : Opening) (gives : OpeningBytes)
        (opened : IsOpenedOf left gives dn node given) where
      then : IsOfStory opening whole dn node
      then = of_story_still opening front behind legal one_log dn none node is

      given_back : (block : Block) → holds opening whole dn block ≡ true → GivesBack opening bytes script whole dn gives block
      given_back block held =
          let here : is_held node block ≡ true = then.held block ∙ held in
          let has = contents block here in
          let got = holder_got opening front block dn (sym (is.held block) ∙ here) in
          let all = take_all (length front) front (omega arith) in
          let its = subst (λ (l : List Event). HasIts opening bytes script l block dn) all
          (at_each opening bytes script coherent front legal fits block (length front) dn
          (subst (λ (l : List Event). GotIt opening l block dn) (sym all) got)) in
          record {
            content = has.content;
            has = bytes_of_content block has.content got its
                (one_content opening bytes script coherent apart front legal block its.content has.content its.its has.its);
            gives = opened.gives block here ∙ has.gives;
          }

      length_told : (of : NodeOpening) (piece : Piece) → slice_get left.nodes dn ≡ Some of → Contains of.held piece
          → Contains (lengths_of opening whole piece.block) piece.length
      length_told of piece there among =
          let same = one_node opened.opened of (sym opened.there ∙ there) in
          let its : Contains opened.opened.held piece = subst (λ (n : NodeOpening). Contains n.held piece) (sym same) among in
          let itself : is_block piece.block piece.block ≡ true = ap (λ (t : Bool). t && piece.block.local == piece.block.local)
          (eq-eqb piece.block.container piece.block.container refl)
          ∙ eq-eqb piece.block.local piece.block.local refl in
          let was : was_held left dn piece.block ≡ true = ap (λ (o : Option NodeOpening). option_map_or (has_piece piece.block) o false) opened.there
          ∙ one_passes (λ (other : Piece). is_block piece.block other.block) opened.opened.held piece its itself in
          let row = row_there (node.rows piece.block) (sym (opened.held piece.block) ∙ was) in
          subst (λ (n : ℕ). Contains (lengths_of opening whole piece.block) n) (sym (opened.lengths piece row.0 its row.1))
          (then.lengths piece.block row.0 row.1)

      pub left_by : IsLeftByNode opening bytes script whole dn left gives
      left_by = record {
        held = λ block. opened.held block ∙ then.held block;
        lengths = length_told;
        has = given_back;
        closed = λ container. opened.closed container ∙ then.closed container;
        greatest = λ container. opened.greatest container ∙ then.greatest container;
      }

  -- what the story itself leaves
  pub left_at_rest : LogIsNumbered opening → (story : List Event) → IsLegal opening story → FitsFrom opening bytes script [] story
      → (node : Node) (given : GivenBytes) → IsOfStory opening story dn node → GivesContents opening bytes script story node given
      → (left : Opening) (gives : OpeningBytes) → IsOpenedOf left gives dn node given
      → IsLeftByNode opening bytes script story dn left gives
  left_at_rest numbered story legal fits node given is contents left gives opened =
      let same = append-nil story in
      let one_log = subst (λ (l : List Event). AreApart (logs opening l)) (sym same) (are_numbered opening story numbered legal).apart in
      subst (λ (l : List Event). IsLeftByNode opening bytes script l dn left gives) same
      (left_by story [] legal fits one_log refl (λ block. refl) node given is contents left gives opened)

  -- ---- a datanode that halted

  module _ (numbered : LogIsNumbered opening) (before behind : List Event) (count : ℕ) where
    abbrev halt : Event
    halt = record { seat = datanode_seat dn; kind = Halt (Datanode dn) count }

    abbrev story : List Event
    story = before ++ halt ∷ behind

    module _ (legal : IsLegal opening story) (fits : FitsFrom opening bytes script [] story) where
      before_legal : IsLegal opening before
      before_legal = legal_to opening [] before (halt ∷ behind) legal

      before_fits : FitsFrom opening bytes script [] before
      before_fits = fits_to opening bytes script [] before (halt ∷ behind) fits

      behind_legal : IsLegalFrom opening (before ++ halt ∷ []) behind
      behind_legal = legal_rest opening before halt behind (legal_behind opening [] before (halt ∷ behind) legal)

      halts : IsHalted (Datanode dn) (before ++ halt ∷ [])
      halts = halted_by (Datanode dn) before (datanode_seat dn) count

      none : has_event (changes dn) (halt ∷ behind) ≡ false
      none = nothing_behind_a_halt dn opening behind (before ++ halt ∷ []) behind_legal halts

      gets_none : (block : Block) → has_event (puts_or_copies dn block) (halt ∷ behind) ≡ false
      gets_none block = node_rests opening dn block behind (before ++ halt ∷ []) behind_legal halts

      one_log : AreApart (logs opening story)
      one_log = (are_numbered opening story numbered legal).apart

      module _ (left : Opening) (gives : OpeningBytes) where
        abbrev Allowed : Type 0
        Allowed = MayBeLeftByNode opening bytes script story dn left gives

        -- no entry more
        as_it_was : (node : Node) (given : GivenBytes) → IsOfStory opening before dn node → GivesContents opening bytes script before node given
            → (taken : Opening) → IsOpenedOf taken gives dn node given → IsLeftByNode opening bytes script story dn taken gives
        as_it_was node given is contents taken opened =
            left_by before (halt ∷ behind) before_legal before_fits one_log none gets_none node given is contents taken gives opened

        -- the entry of an event
        module _ (kind : EventKind) (enabled : KindIsEnabled opening before (datanode_seat dn) kind) (puts : PutsContent opening bytes script before kind)
            (its_fit : EventFits opening bytes script before kind) (unlogged : logged kind ≡ None) where
          abbrev event : Event
          event = record { seat = datanode_seat dn; kind = kind }

          abbrev longer : List Event
          longer = (before ++ event ∷ []) ++ halt ∷ behind

          then_legal : IsLegal opening (before ++ event ∷ [])
          then_legal = legal_on opening [] before event before_legal enabled

          then_fits : FitsFrom opening bytes script [] (before ++ event ∷ [])
          then_fits = fits_on opening bytes script [] before event before_fits its_fit

          same_log : logs opening longer ≡ logs opening story
          same_log = ap (λ (l : List Txn). map (λ (unretired : Unretired). unretired.txn) opening.unretired ++ l) (
              ap (all_told logged) (moved_over before (halt ∷ behind) event)
              ∙ filter_map-append (λ (event : Event). logged event.kind) before (event ∷ halt ∷ behind)
              ∙ ap (λ (o : Option Txn). all_told logged before ++ cons_option o (all_told logged behind)) unlogged
              ∙ sym (filter_map-append (λ (event : Event). logged event.kind) before (halt ∷ behind)))

          pub with_event : (node : Node) (given : GivenBytes) → IsOfStory opening (before ++ event ∷ []) dn node
              → GivesContents opening bytes script before node given → IsOpenedOf left gives dn node given → Allowed
          with_event node given is contents opened = inl (record {
            longer = longer;
            one_more = inr (record {
              before = before;
              behind = behind;
              seat = datanode_seat dn;
              count = count;
              halted = refl;
              further = kind;
              enabled = enabled;
              content = puts;
              more = moved_over before (halt ∷ behind) event;
            });
            is = left_by (before ++ event ∷ []) (halt ∷ behind) then_legal then_fits
                (subst AreApart (sym same_log) one_log) none gets_none node given is then_contents left gives opened;
          })
            where
              then_contents : GivesContents opening bytes script (before ++ event ∷ []) node given
              then_contents block held =
                  let has = contents block held in
                  record {
                    content = has.content;
                    its = content_behind opening bytes script before (event ∷ []) then_legal then_fits block has.content has.its;
                    gives = has.gives;
                  }

        -- another state
        with_state : (container : ℕ) (was node : Node) (given : GivenBytes) → IsOfStory opening before dn was → AreSameButForAState container was node
            → GivesContents opening bytes script before node given → IsOpenedOf left gives dn node given → Allowed
        with_state container was node given is same contents opened =
            let halted = halted_in dn behind (before ++ halt ∷ []) halts in
            let here = subst (IsHalted (Datanode dn)) (moved_over before behind halt) halted in
            let counted = last_count (Datanode dn) story here in
            inr (record {
              count = counted.0;
              halted = counted.1;
              usual = usual left gives dn container was node given opened same;
              is = as_it_was was given is was_contents (usual left gives dn container was node given opened same)
                  (usual_is_opened left gives dn container was node given opened same);
              container = container;
              same = is_same left gives dn container was node given opened same;
            })
          where
            was_contents : GivesContents opening bytes script before was given
            was_contents block held = contents block (ap (λ (o : Option BlockRow). is_some o) (same.rows block) ∙ held)

        module _ (node : Node) (given : GivenBytes) (contents : GivesContents opening bytes script before node given)
            (opened : IsOpenedOf left gives dn node given)
            (was : Node) (stands : IsOfStory opening before dn was) where
          no_more : node ≡ was → Allowed
          no_more same = inl (record {
            longer = story;
            one_more = inl refl;
            is = as_it_was node given (subst (IsOfStory opening before dn) (sym same) stands) contents left opened;
          })

          one_more : (entry : Entry) → WasToMake opening bytes script before dn was entry → node ≡ after_entry entry was → Allowed
          one_more (entries.Put block row) (inl put) same =
              with_event (Put dn block put.id put.first row.length) put.enabled put.content put.content refl node given
              (subst (IsOfStory opening (before ++ record { seat = datanode_seat dn; kind = Put dn block put.id put.first row.length } ∷ []) dn) (sym same)
              (of_put opening numbered before before_legal dn (datanode_seat dn) was stands block put.id put.first row put.enabled)) contents opened
          one_more (entries.Put block row) (inr copy) same =
              with_event (Copy copy.source dn block) copy.enabled tt tt refl node given
              (subst (IsOfStory opening (before ++ record { seat = datanode_seat dn; kind = Copy copy.source dn block } ∷ []) dn) (sym same)
              (of_copy opening numbered before before_legal dn (datanode_seat dn) was stands copy.source block row copy.enabled copy.told)) contents opened
          one_more (entries.SetState container state) made same =
              with_state container was node given stands
              (subst (AreSameButForAState container was) (sym same) (same_but_for_a_state container state was)) contents opened
          one_more (entries.Apply txn) apply same =
              let made = of_delete opening numbered before before_legal dn (datanode_seat dn) was stands txn.number apply.locals apply.enabled in
              let is = subst (λ (t : Txn). IsOfStory opening
              (before ++ record { seat = datanode_seat dn; kind = Delete dn txn.number apply.locals } ∷ []) dn
              (after_entry (entries.Apply t) was)) apply.its made in
              with_event (Delete dn txn.number apply.locals) apply.enabled tt tt refl node given
              (subst (IsOfStory opening (before ++ record { seat = datanode_seat dn; kind = Delete dn txn.number apply.locals } ∷ []) dn)
              (sym same) is) contents opened
          one_more (entries.Drop container) none_held same =
              with_state container was node given stands
              (subst (AreSameButForAState container was) (sym same) (dropped_is_the_same container was none_held)) contents opened

          pub by_entry : (entry : Option Entry) → IfSome entry (WasToMake opening bytes script before dn was) → MayHaveEntry entry was node → Allowed
          by_entry None made same = no_more same
          by_entry (Some entry) made (inl same) = no_more same
          by_entry (Some entry) made (inr same) = one_more entry made same

-- whatever it leaves, as the next opening has it
pub may_be_left : (opening : Opening) (bytes : OpeningBytes) (script : Script) → IsCoherent opening bytes → LinesAreApart script → LogIsNumbered opening
    → (dn : ℕ) (before behind : List Event) (count : ℕ)
    → IsLegal opening (before ++ record { seat = datanode_seat dn; kind = Halt (Datanode dn) count } ∷ behind)
    → FitsFrom opening bytes script [] (before ++ record { seat = datanode_seat dn; kind = Halt (Datanode dn) count } ∷ behind)
    → (remains : Remains) → Leaves opening bytes script before dn remains → (node : Node) (given : GivenBytes) → remains node given
    → (left : Opening) (gives : OpeningBytes) → IsOpenedOf left gives dn node given
    → MayBeLeftByNode opening bytes script (before ++ record { seat = datanode_seat dn; kind = Halt (Datanode dn) count } ∷ behind) dn left gives
may_be_left opening bytes script coherent apart numbered dn before behind count legal fits remains leaves node given remain left gives opened =
    by_entry opening bytes script coherent apart dn numbered before behind count legal fits left gives node given
    (leaves.contents node given remain) opened leaves.was leaves.stands leaves.entry leaves.to_make (leaves.kept node given remain)

-- so of each datanode that halted, unless a line that wipes it was at work
pub halted_may_leave : (opening : Opening) (bytes : OpeningBytes) (script : Script) (story : List Event) (dn : ℕ) (remains : Remains)
    → (halted : NodeHalted opening bytes script story dn remains) → (node : Node) (given : GivenBytes) (left : Opening) (gives : OpeningBytes)
    → IsCoherent opening bytes → LinesAreApart script → LogIsNumbered opening → IsLegal opening story → FitsFrom opening bytes script [] story
    → remains node given → IsOpenedOf left gives dn node given
    → MayBeLeftByNode opening bytes script story dn left gives ⊎ IsAtWork script halted.before (admin.Wipe dn)
halted_may_leave opening bytes script story dn remains halted node given left gives coherent apart numbered legal fits remain opened = by halted.left
  where
    by : Leaves opening bytes script halted.before dn remains ⊎ IsAtWork script halted.before (admin.Wipe dn)
        → MayBeLeftByNode opening bytes script story dn left gives ⊎ IsAtWork script halted.before (admin.Wipe dn)
    by (inr wiped) = inr wiped
    by (inl leaves) = inl (subst (λ (l : List Event). MayBeLeftByNode opening bytes script l dn left gives) (sym halted.parts)
        (may_be_left opening bytes script coherent apart numbered dn halted.before halted.behind halted.count
        (subst (IsLegal opening) halted.parts legal) (subst (FitsFrom opening bytes script []) halted.parts fits)
        remains leaves node given remain left gives opened))
