-- What datanodes may be left with: each block with its content, on a member of its container.
use Rattle.std.proofs.Common.{◌≡◌, ◌⊎◌, ℕ, ◌==◌, Bool, true, false, ◌||◌, List, [], ◌∷◌, ◌++◌, length, take, drop, Some, Contains, inl, inr, refl, sym, ◌∙◌, ap, subst, take_all, arith}
use mathlib.Core.Bool.{false≢true}
use Rattle.std.proofs.lemmas.Bool.{eqb-true, and_parts}
use Rattle.std.proofs.lemmas.List.{take-append-drop}
use Rattle.std.proofs.lemmas.List.Folds.{list_any-append}
use Rattle.oz_fields.specs.declared.block.Block.{Block}
use Rattle.oz_script.specs.declared.lines.script.Script.{Script}
use Rattle.oz_core.specs.declared.event.Event.{Event}
use Rattle.oz_core.specs.declared.event.EventKind.{EventKind}
use Rattle.oz_core.specs.declared.event.EventKind.TheVariants.{Halt, Put, Copy}
use Rattle.oz_core.specs.declared.event.Node.TheVariants.{Datanode}
use Rattle.oz_core.specs.declared.opening.Opening.{Opening}
use Rattle.oz_core.specs.Coherent.{IsCoherent}
use Rattle.oz_core.specs.Contents.{OpeningBytes, HasContent}
use Rattle.oz_core.specs.Fits.{EventFits, FitsFrom}
use Rattle.oz_core.specs.Law.{IsLegal, KindIsEnabled, puts_or_copies}
use Rattle.oz_core.specs.Nodes.{is_block, was_held, holds}
use Rattle.oz_core.specs.Scm.{members}
use Rattle.oz_core.specs.Stories.{has_event}
use Rattle.oz_kept.specs.Held.{LinesAreApart, Having, HadAtOpening, HavingFrom, HasBytes}
use Rattle.oz_kept.specs.laws.Places.{moved_over, legal_behind, legal_rest}
use Rattle.oz_kept.specs.laws.Deleted.{legal_to, found_at, enabled_at}
use Rattle.oz_kept.specs.laws.Contents.{GotIt, HasIts, one_block, holder_got, at_each, fits_to, one_content}
use Rattle.oz_kept.specs.reopened.Left.{GivesBack}
use Rattle.oz_kept.specs.reopened.laws.Given.{gives_content, one_value}
use Rattle.oz_kept.specs.reopened.laws.Placed.{event_there, held_by_member}
use Rattle.oz_kept.specs.reopened.laws.Rising.{member_stays}
use Rattle.oz_halted.specs.Further.{PutsContent, HasOneMore, MayBeLeftByNode}
use Rattle.oz_halted.specs.laws.Lasting.{content_behind, held_as}
use Rattle.oz_halted.specs.laws.Resting.{legal_on, fits_on, halted_by, node_rests, had_still, had_in_parts}

-- ---- who got a block is a member

got_as_member : (opening : Opening) (before : List Event) (seat : ℕ) (kind : EventKind) (dn : ℕ) (block : Block) → KindIsEnabled opening before seat kind → puts_or_copies dn block kind ≡ true → Contains (members opening before block.container) dn
got_as_member opening before seat (Put other put id first count) dn block enabled test =
    let parts = and_parts (other == dn) (is_block block put) test in
    let same = sym (one_block block put parts.1) in
    let member = subst (λ (b : Block). Contains (members opening before b.container) other) same enabled.member in
    subst (λ (n : ℕ). Contains (members opening before block.container) n) (eqb-true other dn parts.0) member
got_as_member opening before seat (Copy source target copied) dn block enabled test =
    let parts = and_parts (target == dn) (is_block block copied) test in
    let same = sym (one_block block copied parts.1) in
    let member = subst (λ (b : Block). Contains (members opening before b.container) target) same enabled.to_member in
    subst (λ (n : ℕ). Contains (members opening before block.container) n) (eqb-true target dn parts.0) member
got_as_member opening before seat kind dn block enabled test = absurd (false≢true test)

got_by_member : (opening : Opening) (bytes : OpeningBytes) (story : List Event) (block : Block) (dn : ℕ) → IsLegal opening story → IsCoherent opening bytes → GotIt opening story block dn → Contains (members opening story block.container) dn
got_by_member opening bytes story block dn legal coherent (inl got) =
    let it = event_there (puts_or_copies dn block) story got in
    let member = got_as_member opening (take it.there.0 story) it.event.seat it.event.kind dn block (enabled_at opening story legal it.there.0 it.event (found_at story it.event it.there)) it.so in
    subst (λ (l : List Event). Contains (members opening l block.container) dn) (take-append-drop it.there.0 story)
    (member_stays opening (take it.there.0 story) (drop it.there.0 story) block.container dn member)
got_by_member opening bytes story block dn legal coherent (inr was) = member_stays opening [] story block.container dn (coherent.blocks.placed block dn was)

-- ---- what is left of a block on a datanode

-- these bytes are the block's content, and the datanode is a member
pub record IsWell (opening : Opening) (bytes : OpeningBytes) (script : Script) (story : List Event) (given : OpeningBytes) (dn : ℕ) (block : Block) : Type 0 where
  pub content : List ℕ
  pub its : HasContent opening bytes script story block content
  pub gives : given dn block ≡ Some content
  pub member : Contains (members opening story block.container) dn

pub as_told : (opening : Opening) (bytes : OpeningBytes) (script : Script) (story : List Event) → IsCoherent opening bytes → LinesAreApart script → IsLegal opening story → FitsFrom opening bytes script [] story
    → (given : OpeningBytes) (dn : ℕ) (block : Block) → holds opening story dn block ≡ true → GivesBack opening bytes script story dn given block → IsWell opening bytes script story given dn block
as_told opening bytes script story coherent apart legal fits given dn block held back = record {
  content = back.content;
  its = gives_content opening bytes script story coherent apart legal fits given block dn held back;
  gives = back.gives;
  member = held_by_member opening bytes story block dn legal coherent.blocks held;
}

-- ---- one event more

module _ (opening : Opening) (bytes : OpeningBytes) (script : Script) (coherent : IsCoherent opening bytes) (apart : LinesAreApart script) (before : List Event) (legal : IsLegal opening before) (fits : FitsFrom opening bytes script [] before)
    (dn : ℕ) (block : Block) where
  its_in_front : (other : ℕ) → GotIt opening before block other → HasIts opening bytes script before block other
  its_in_front other got =
      let whole = take_all (length before) before (omega arith) in
      subst (λ (l : List Event). HasIts opening bytes script l block other) whole
      (at_each opening bytes script coherent before legal fits block (length before) other (subst (λ (l : List Event). GotIt opening l block other) (sym whole) got))

  further_fits : (kind : EventKind) → puts_or_copies dn block kind ≡ true → PutsContent opening bytes script before kind → EventFits opening bytes script before kind
  further_fits (Put other put id first count) test content = content
  further_fits (Copy source target copied) test content = tt
  further_fits kind test content = absurd (false≢true test)

  -- what it gives is the block's content
  further_content : (seat : ℕ) (kind : EventKind) → KindIsEnabled opening before seat kind → PutsContent opening bytes script before kind → puts_or_copies dn block kind ≡ true
      → (content : List ℕ) × HasContent opening bytes script before block content
  further_content seat (Put other put id first count) enabled content test =
      let same = sym (one_block block put (and_parts (other == dn) (is_block block put) test).1) in
      (content.content, subst (λ (b : Block). HasContent opening bytes script before b content.content) same content.its)
  further_content seat (Copy source target copied) enabled content test =
      let same = sym (one_block block copied (and_parts (target == dn) (is_block block copied) test).1) in
      let its = its_in_front source (subst (λ (b : Block). GotIt opening before b source) same enabled.had) in
      (its.content, its.its)
  further_content seat kind enabled content test = absurd (false≢true test)

  -- the bytes that a datanode has behind it are the content
  module _ (seat : ℕ) (kind : EventKind) (enabled : KindIsEnabled opening before seat kind) (puts : PutsContent opening bytes script before kind) where
    abbrev longer : List Event
    longer = before ++ record { seat = seat; kind = kind } ∷ []

    pub legal_longer : IsLegal opening longer
    legal_longer = legal_on opening [] before (record { seat = seat; kind = kind }) legal enabled

    given_content : puts_or_copies dn block kind ≡ true → (content : List ℕ) → HasBytes opening bytes script longer block dn content → HasContent opening bytes script before block content
    given_content test content has =
        let fits_longer = fits_on opening bytes script [] before (record { seat = seat; kind = kind }) fits (further_fits kind test puts) in
        let whole = take_all (length longer) longer (omega arith) in
        let its = subst (λ (l : List Event). HasIts opening bytes script l block dn) whole
        (at_each opening bytes script coherent longer legal_longer fits_longer block (length longer) dn (subst (λ (l : List Event). GotIt opening l block dn) (sym whole) (inl got))) in
        let old = further_content seat kind enabled puts test in
        let one = one_content opening bytes script coherent apart longer legal_longer block its.content old.0 its.its
        (content_behind opening bytes script before (record { seat = seat; kind = kind } ∷ []) legal_longer fits_longer block old.0 old.1) in
        let same = one_value script apart block opening bytes longer dn its.content content its.has has in
        subst (HasContent opening bytes script before block) (sym one ∙ same) old.1
      where
        or_true : (t : Bool) → t || (true || false) ≡ true
        or_true true = refl
        or_true false = refl

        got : has_event (puts_or_copies dn block) longer ≡ true
        got =
            list_any-append (λ (event : Event). puts_or_copies dn block event.kind) before (record { seat = seat; kind = kind } ∷ [])
            ∙ ap (λ (t : Bool). has_event (puts_or_copies dn block) before || (t || false)) test ∙ or_true (has_event (puts_or_copies dn block) before)

module _ (opening : Opening) (bytes : OpeningBytes) (script : Script) (story : List Event) (coherent : IsCoherent opening bytes) (apart : LinesAreApart script) (legal : IsLegal opening story) (fits : FitsFrom opening bytes script [] story)
    (given : OpeningBytes) (dn : ℕ) (block : Block) where
  module _ (longer : List Event) (more : HasOneMore opening bytes script (Datanode dn) story longer) where
    abbrev halt : Event
    halt = record { seat = more.seat; kind = Halt (Datanode dn) more.count }

    abbrev event : Event
    event = record { seat = more.seat; kind = more.further }

    parts_legal : IsLegal opening (more.before ++ halt ∷ more.behind)
    parts_legal = subst (IsLegal opening) more.halted legal

    parts_fit : FitsFrom opening bytes script [] (more.before ++ halt ∷ more.behind)
    parts_fit = subst (FitsFrom opening bytes script []) more.halted fits

    before_legal : IsLegal opening more.before
    before_legal = legal_to opening [] more.before (halt ∷ more.behind) parts_legal

    before_fits : FitsFrom opening bytes script [] more.before
    before_fits = fits_to opening bytes script [] more.before (halt ∷ more.behind) parts_fit

    -- behind its Halt it gets nothing
    rests : has_event (puts_or_copies dn block) (halt ∷ more.behind) ≡ false
    rests =
        node_rests opening dn block more.behind (more.before ++ halt ∷ [])
        (legal_rest opening more.before halt more.behind (legal_behind opening [] more.before (halt ∷ more.behind) parts_legal))
        (halted_by (Datanode dn) more.before more.seat more.count)

    well : (content : List ℕ) → HasContent opening bytes script more.before block content → given dn block ≡ Some content → Contains (members opening more.before block.container) dn → IsWell opening bytes script story given dn block
    well content its gives member = record {
      content = content;
      its = subst (λ (l : List Event). HasContent opening bytes script l block content) (sym more.halted) (content_behind opening bytes script more.before (halt ∷ more.behind) parts_legal parts_fit block content its);
      gives = gives;
      member = subst (λ (l : List Event). Contains (members opening l block.container) dn) (sym more.halted) (member_stays opening more.before (halt ∷ more.behind) block.container dn member);
    }

    abbrev start : Having
    start = HadAtOpening opening bytes block

    -- what it has behind all of them, it has behind the event
    with_event : (content : List ℕ) → HasBytes opening bytes script longer block dn content → HavingFrom script block start (more.before ++ event ∷ []) dn content
    with_event content has =
        let all = subst (λ (l : List Event). HavingFrom script block start l dn content) (more.more ∙ sym (moved_over more.before (halt ∷ more.behind) event)) has in
        had_still script block dn content (halt ∷ more.behind) (HavingFrom script block start (more.before ++ event ∷ [])) rests
        (had_in_parts script block dn content (more.before ++ event ∷ []) (halt ∷ more.behind) start all)

    with_more : holds opening longer dn block ≡ true → GivesBack opening bytes script longer dn given block → IsWell opening bytes script story given dn block
    with_more held back = by (puts_or_copies dn block more.further) refl
      where
        parts : has_event (puts_or_copies dn block) longer ≡ has_event (puts_or_copies dn block) more.before || (puts_or_copies dn block more.further || has_event (puts_or_copies dn block) (halt ∷ more.behind))
        parts =
            ap (has_event (puts_or_copies dn block)) more.more
            ∙ list_any-append (λ (event : Event). puts_or_copies dn block event.kind) more.before (event ∷ halt ∷ more.behind)

        got_before : puts_or_copies dn block more.further ≡ false → GotIt opening longer block dn → GotIt opening more.before block dn
        got_before none (inr was) = inr was
        got_before none (inl got) = inl (by_test (has_event (puts_or_copies dn block) more.before) (sym (parts ∙ ap (λ (t : Bool). has_event (puts_or_copies dn block) more.before || (t || has_event (puts_or_copies dn block) (halt ∷ more.behind))) none ∙ ap (λ (t : Bool). has_event (puts_or_copies dn block) more.before || (false || t)) rests) ∙ got))
          where
            by_test : (t : Bool) → t || (false || false) ≡ true → t ≡ true
            by_test true e = refl
            by_test false e = e

        by : (t : Bool) → puts_or_copies dn block more.further ≡ t → IsWell opening bytes script story given dn block
        by true test =
            well back.content
            (given_content opening bytes script coherent apart more.before before_legal before_fits dn block more.seat more.further more.enabled more.content test back.content (with_event back.content back.has))
            back.gives
            (got_as_member opening more.before more.seat more.further dn block more.enabled test)
        by false none =
            let got = got_before none (holder_got opening longer block dn held) in
            let its = its_in_front opening bytes script coherent apart more.before before_legal before_fits dn block dn got in
            let had : HasBytes opening bytes script more.before block dn back.content =
            had_still script block dn back.content (event ∷ []) (HavingFrom script block start more.before) (ap (λ (t : Bool). t || false) none)
            (had_in_parts script block dn back.content more.before (event ∷ []) start (with_event back.content back.has)) in
            let same = one_value script apart block opening bytes more.before dn its.content back.content its.has had in
            well back.content (subst (HasContent opening bytes script more.before block) same its.its) back.gives
            (got_by_member opening bytes more.before block dn before_legal coherent got)

  -- ---- whatever it may be left with

  pub node_well : (left : Opening) → MayBeLeftByNode opening bytes script story dn left given → was_held left dn block ≡ true → IsWell opening bytes script story given dn block
  node_well left (inl one) held = by one.one_more (sym (one.is.held block) ∙ held)
    where
      by : (one.longer ≡ story) ⊎ HasOneMore opening bytes script (Datanode dn) story one.longer → holds opening one.longer dn block ≡ true → IsWell opening bytes script story given dn block
      by (inl same) held =
          as_told opening bytes script story coherent apart legal fits given dn block
          (subst (λ (l : List Event). holds opening l dn block ≡ true) same held)
          (subst (λ (l : List Event). GivesBack opening bytes script l dn given block) same (one.is.has block held))
      by (inr more) held = with_more one.longer more held (one.is.has block held)
  node_well left (inr but) held =
      let here : holds opening story dn block ≡ true = sym (but.is.held block) ∙ sym (held_as dn block left but.usual but.same.held) ∙ held in
      as_told opening bytes script story coherent apart legal fits given dn block here (but.is.has block here)
