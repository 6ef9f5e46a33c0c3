-- A datanode's seat that has seen nothing.
use Rattle.std.proofs.Common.{◌≡◌, ℕ, ◌<◌, ◌≤◌, Bool, true, false, not, cond, List, [], ◌++◌, length, Option, None, Some, IfSome, inl, refl, sym, ap, ◌∙◌, subst}
use Rattle.std.proofs.lemmas.Bool.{false≢true}
use Rattle.std.specs.Prelude.{is_some}
use Rattle.oz_buffer.specs.Buffer.{AllFollow, Follows}
use Rattle.oz_buffer.specs.laws.Following.{follow-none}
use Rattle.oz_core.specs.declared.event.Event.{Event}
use Rattle.oz_core.specs.declared.event.Node.{Node}
use Rattle.oz_core.specs.declared.event.Node.TheVariants.{Datanode}
use Rattle.oz_core.specs.declared.opening.Opening.{Opening}
use Rattle.oz_core.specs.Contents.{OpeningBytes}
use Rattle.oz_core.specs.Stories.{has_event}
use Rattle.oz_node_events.specs.full.Full.{JournalStands}
use Rattle.oz_script.specs.declared.lines.script.Script.{Script}
use Rattle.oz_nodes.specs.declared.nodes.TheConstants.{MOST_NODES}
use Rattle.oz_turn.specs.Told.{BeginsWith}
use Rattle.oz_datanode.specs.Datanode.{State, Runs, count_of, is_halted, node_in, slots_of}
use Rattle.oz_datanode.specs.Pairs.{Content, Has, HaveAll}
use Rattle.oz_datanode.specs.Writing.{intact}
use Rattle.oz_entries.specs.Node.{Node as HeldNode}
use Rattle.oz_entries.specs.declared.row.BlockRow.{BlockRow}
use Rattle.oz_fields.specs.declared.block.Block.{Block}
use Rattle.oz_world.specs.Disk.{Images}
use Rattle.oz_node_events.specs.Led.{no_lines}
use Rattle.oz_node_events.specs.NodeSeat.{HasContents, IsAsOpened, IsKept, NumbersAreOld, SeatView, StandsFor, events_of, is_bad}
use Rattle.oz_node_events.proofs.Following.{not_halted, not_stopped}

module _ (Coherent : Type 0) (opening : Opening) (bytes : OpeningBytes) (script : Script) where
  pub kept_new : (dn : ℕ) (seen mine : List Event) → dn < MOST_NODES → dn < length opening.nodes → (Coherent → NumbersAreOld opening)
      → seen ≡ [] → mine ≡ []
      → IsKept Coherent opening bytes script (record { dn = dn; seen = seen; mine = mine; room = 0; last = no_lines })
  kept_new dn seen mine few there numbered none given =
      subst (λ (s : List Event). IsKept Coherent opening bytes script (record { dn = dn; seen = s; mine = mine; room = 0; last = no_lines })) (sym none)
      (subst (λ (m : List Event). IsKept Coherent opening bytes script (record { dn = dn; seen = []; mine = m; room = 0; last = no_lines })) (sym given)
      (record {
        few = few;
        there = there;
        numbered = numbered;
        own = refl;
        follow = follow-none (Follows Coherent opening bytes script);
        no_bad = λ coherent. refl;
      }))

  -- and one that has seen and given more
  pub kept_later : (dn room : ℕ) (last : List ℕ) (seen mine : List Event) → IsKept Coherent opening bytes script (record { dn = dn; seen = seen; mine = mine; room = room; last = last })
      → (later : SeatView) → later.dn ≡ dn → events_of dn later.seen ≡ later.mine → AllFollow (Follows Coherent opening bytes script) [] later.seen
      → (Coherent → has_event is_bad later.mine ≡ false) → IsKept Coherent opening bytes script later
  kept_later dn room last seen mine kept later number own follow no_bad = record {
    few = subst (λ (n : ℕ). n < MOST_NODES) (sym number) kept.few;
    there = subst (λ (n : ℕ). n < length opening.nodes) (sym number) kept.there;
    numbered = kept.numbered;
    own = ap (λ (n : ℕ). events_of n later.seen) number ∙ own;
    follow = follow;
    no_bad = no_bad;
  }

pub begins_as : (story one other : List Event) → one ≡ other → BeginsWith story one → BeginsWith story other
begins_as story one other same begins = (begins.0, begins.1 ∙ ap (λ (l : List Event). l ++ begins.0) same)

-- ---- a datanode that was loaded

abbrev or_none : Option (List ℕ) → List ℕ
or_none None = []
or_none (Some content) = content

some_row : (o : Option BlockRow) → is_some o ≡ true → (row : BlockRow) × (o ≡ Some row)
some_row None is = absurd (false≢true is)
some_row (Some row) is = (row, refl)

-- what stands beside the opening is the content of the blocks that are held
opened_has : (o : Option (List ℕ)) (content : List ℕ) → o ≡ Some content → or_none o ≡ content
opened_has o content is = ap or_none is

all_have : (contents : Block → Content) (node : HeldNode) (slots : Option (List ℕ))
    → ((block : Block) (row : BlockRow) → node.rows block ≡ Some row → IfSome slots (Has (contents block) row)) → IfSome slots (HaveAll contents node)
all_have contents node None each = tt
all_have contents node (Some slots) each = each

pub loaded_stands : {D : Type 0} (told : D → Option (List ℕ)) (clock : D → ℕ) (image : D → Images) (faults : D → ℕ) (Coherent : Type 0) (opening : Opening) (bytes : OpeningBytes)
    (script : Script) (loaded : Node → ℕ) (node : State D) → Runs faults node
    → (Coherent → IsAsOpened told clock image faults opening bytes node) → (Coherent → JournalStands told node)
    → loaded (Datanode node.id) ≤ count_of faults node
    → StandsFor told clock image faults Coherent opening bytes script loaded (record { dn = node.id; seen = []; mine = []; room = 0; last = no_lines }) node
loaded_stands {D} told clock image faults Coherent opening bytes script loaded node runs as_opened journal no_fewer = record {
  number = refl;
  halt = sym (ap (λ (t : Bool). cond t (Some (count_of faults node)) None) (not_halted (is_halted node) (count_of faults node) _ runs));
  line = sym (ap not (not_stopped (is_halted node) node.stopped (count_of faults node) runs));
  tells = λ coherent. (as_opened coherent).tells;
  no_fewer = no_fewer;
  rose = λ halted. absurd (false≢true (sym (not_halted (is_halted node) (count_of faults node) _ runs) ∙ halted));
  held = λ coherent up block. (as_opened coherent).held block;
  whole = λ coherent up block row is. (as_opened coherent).whole block row is;
  closed = λ coherent up container. (as_opened coherent).closed container;
  greatest = λ coherent up container. (as_opened coherent).greatest container;
  journal = λ coherent up. journal coherent;
  contents = λ coherent up. of_opening (as_opened coherent);
} where
  of_opening : IsAsOpened told clock image faults opening bytes node → HasContents told clock image faults opening bytes script [] node
  of_opening as_opened = record {
    contents = λ block. intact (or_none (bytes node.id block));
    holds = as_opened.pairs (λ block. intact (or_none (bytes node.id block)))
        (λ tells. all_have (λ block. intact (or_none (bytes node.id block))) (node_in node) (told (slots_of node))
        (λ block row is.
        let has = as_opened.contents block row is in
        subst (λ (l : List ℕ). IfSome (told (slots_of node)) (Has (intact l) row)) (sym (opened_has (bytes node.id block) has.content has.are)) has.has));
    intact = λ block is. refl;
    its = λ block is.
        let row = some_row ((node_in node).rows block) is in
        let has = as_opened.contents block row.0 row.1 in
        inl (record {
          dn = node.id;
          held = as_opened.held block ∙ is;
          are = has.are ∙ ap (λ (l : List ℕ). Some l) (sym (opened_has (bytes node.id block) has.content has.are));
        });
  }
