-- Nodes that hold the same are one, and blocks that go one after another.
use Rattle.std.proofs.Common.{
  ◌≡◌,
  ℕ,
  eqb,
  ◌||◌,
  ◌&&◌,
  Bool,
  true,
  false,
  cond,
  List,
  [],
  ◌∷◌,
  take,
  length,
  get_or,
  ◌+◌,
  ◌<◌,
  Option,
  None,
  Some,
  refl,
  sym,
  ap,
  ◌∙◌,
}
use Rattle.std.proofs.lemmas.List.{take_more}
use Rattle.std.proofs.lemmas.List.Folds.{list_any-append}
use Rattle.std.specs.List.{list_any}
use Rattle.oz_fields.specs.declared.block.Block.{Block}
use Rattle.oz_entries.specs.declared.row.BlockRow.{BlockRow}
use Rattle.oz_entries.specs.Node.{Node, is_same_block, unless_gone, without, names_some}
use Rattle.oz_entries.specs.Held.{AreSame}

pub same_node : (node other : Node) → AreSame node other → other ≡ node
same_node node other same = λ i. record {
  rows = λ block. same.rows block i;
  states = λ container. same.states container i;
  greatest = λ container. same.greatest container i;
  users = λ slot. same.users slot i;
}

-- some blocks, and then others
pub twice : (first second both : Block → Bool) (node : Node) → ((block : Block) → both block ≡ (first block || second block))
    → AreSame (without both node) (without second (without first node))
twice first second both node is = record {
  rows = λ block. rows (first block) (second block) (both block) (node.rows block) (is block);
  states = λ container. refl;
  greatest = λ container. refl;
  users = λ slot. users (node.users slot);
} where
  rows : (a b c : Bool) (row : Option BlockRow) → c ≡ (a || b) → cond b None (cond a None row) ≡ cond c None row
  rows true true c row e = ap (λ (t : Bool). cond t None row) (sym e)
  rows true false c row e = ap (λ (t : Bool). cond t None row) (sym e)
  rows false b c row e = ap (λ (t : Bool). cond t None row) (sym e)

  users : (user : Option Block) → unless_gone second (unless_gone first user) ≡ unless_gone both user
  users None = refl
  users (Some user) = by (first user) (second user) (both user) refl (is user)
    where
      by : (a b c : Bool) → b ≡ second user → c ≡ (a || b) → unless_gone second (cond a None (Some user)) ≡ cond c None (Some user)
      by true b c same e = ap (λ (t : Bool). cond t None (Some user)) (sym e)
      by false b c same e = ap (λ (t : Bool). cond t None (Some user)) (sym same ∙ sym e)

either : (c a b : Bool) → (c && (a || (b || false))) ≡ ((c && a) || (c && b))
either true true b = refl
either true false true = refl
either true false false = refl
either false a b = refl

-- one local id more
pub named_more : (container : ℕ) (locals : List ℕ) (i d : ℕ) → i < length locals → (block : Block)
    → names_some container (take (i + 1) locals) block
    ≡ (names_some container (take i locals) block || is_same_block (record { container = container; local = get_or locals i d }) block)
named_more container locals i d less block =
    let test : ℕ → Bool = λ local. eqb local block.local in
    ap (λ (l : List ℕ). eqb container block.container && list_any test l) (take_more locals i d less)
    ∙ (ap (λ (b : Bool). eqb container block.container && b) (list_any-append test (take i locals) (get_or locals i d ∷ []))
    ∙ either (eqb container block.container) (list_any test (take i locals)) (test (get_or locals i d)))

-- none of them
pub without_none : (container : ℕ) (node : Node) → AreSame (without (names_some container []) node) node
without_none container node = record {
  rows = λ block. sym (ap (λ (b : Bool). cond b None (node.rows block)) (never (eqb container block.container)));
  states = λ c. refl;
  greatest = λ c. refl;
  users = λ slot. sym (users (node.users slot));
} where
  never : (b : Bool) → (b && false) ≡ false
  never true = refl
  never false = refl

  users : (user : Option Block) → unless_gone (names_some container []) user ≡ user
  users None = refl
  users (Some user) = ap (λ (b : Bool). cond b None (Some user)) (never (eqb container user.container))

pub same_then : (a b c : Node) → AreSame a b → AreSame b c → AreSame a c
same_then a b c first second = record {
  rows = λ block. second.rows block ∙ first.rows block;
  states = λ container. second.states container ∙ first.states container;
  greatest = λ container. second.greatest container ∙ first.greatest container;
  users = λ slot. second.users slot ∙ first.users slot;
}
