-- What loading the two disks of a datanode comes to: one node, or one fault.
use Rattle.std.proofs.Common.{◌≡◌, ◌⊎◌, inl, inr, ℕ, zero, suc, ◌<◌, ◌≤◌, Bool, true, false, List, length, refl, sym, ap, subst, ◌∙◌, arith}
use Rattle.std.proofs.lemmas.Bool.{cases_lt, false≢true}
use Rattle.oz_block.specs.Blocks.{StandsFor, IsDamagedDisk}
use Rattle.oz_chunk.specs.Slots.{start_of, end_of, IsWithin}
use Rattle.oz_entries.specs.Node.{Node, is_used}
use Rattle.oz_fields.specs.declared.block.Block.{Block}
use Rattle.oz_journal.specs.Grammar.{IsJournal}
use Rattle.oz_journal.specs.Load.{IsLeftAlone}
use Rattle.oz_datanode.specs.Datanode.{IsLowestPast, BothStandFor, AreDamaged}
use Rattle.oz_datanode.specs.Pairs.{Content, HaveAll}
use Rattle.oz_datanode.proofs.Ranges.{stands_below}

-- what is known of the bytes of a journal
abbrev pub OneNode : Type 0
OneNode = (bytes : List ℕ) (node other : Node) → StandsFor bytes node → StandsFor bytes other → node ≡ other

abbrev pub NotBoth : Type 0
NotBoth = (bytes : List ℕ) (node : Node) (offset : ℕ) → StandsFor bytes node → IsDamagedDisk bytes offset → ⊥

abbrev pub OneFault : Type 0
OneFault = (bytes : List ℕ) (offset place : ℕ) → IsDamagedDisk bytes offset → IsDamagedDisk bytes place → offset ≡ place

abbrev pub StandAlike : Type 0
StandAlike = (before after : List ℕ) (bodies : List (List ℕ)) → IsLeftAlone before after → IsJournal before bodies → IsJournal after bodies

-- ---- slots past the end

one_past : (node : Node) (size offset place : ℕ) → IsLowestPast node size offset → IsLowestPast node size place → offset ≡ place
one_past node size offset place one two =
    omega (arith, one.begins, two.begins, one.lowest two.slot two.is_in_use two.past, two.lowest one.slot one.is_in_use one.past)

none_past : (node : Node) (slots : List ℕ) (offset : ℕ) → ((slot : ℕ) → is_used node slot ≡ true → IsWithin slot slots) → IsLowestPast node (length slots) offset → ⊥
none_past node slots offset within past = absurd (omega (arith, within past.slot past.is_in_use, past.past))

-- those below a bound are within, or one of them is the lowest that isn't
looked : (node : Node) (size bound : ℕ) → ((slot : ℕ) → is_used node slot ≡ true → slot < bound → end_of slot ≤ size) ⊎ ((offset : ℕ) × IsLowestPast node size offset)
looked node size zero = inl (λ slot used below. absurd (omega (arith, below)))
looked node size (suc bound) = elim (looked node size bound) [
  | inl within ↦ one_more node size bound within (is_used node bound) refl
  | inr found ↦ inr found
]
  where
    one_more : (node : Node) (size bound : ℕ) → ((slot : ℕ) → is_used node slot ≡ true → slot < bound → end_of slot ≤ size) → (b : Bool) → b ≡ is_used node bound → ((slot : ℕ) → is_used node slot ≡ true → slot < suc bound → end_of slot ≤ size) ⊎ ((offset : ℕ) × IsLowestPast node size offset)
    one_more node size bound within false unused =
        inl (λ slot used below. elim (cases_lt slot bound) [
          | inl lower ↦ within slot used lower
          | inr not_lower ↦ let same : slot ≡ bound = omega (arith, below, not_lower) in absurd (false≢true (unused ∙ (ap (is_used node) (sym same) ∙ used)))
        ])
    one_more node size bound within true used_here = elim (cases_lt size (end_of bound)) [
      | inl past ↦
          inr (
            start_of bound,
            record {
              slot = bound;
              is_in_use = sym used_here;
              past = past;
              lowest = λ other used beyond. elim (cases_lt other bound) [
                | inl lower ↦ absurd (omega (arith, within other used lower, beyond))
                | inr not_lower ↦ not_lower
              ];
              begins = refl;
            },
          )
      | inr ends ↦
          inl (λ slot used below. elim (cases_lt slot bound) [
            | inl lower ↦ within slot used lower
            | inr not_lower ↦ omega (arith, below, not_lower, ends)
          ])
    ]

-- ---- the two disks

pub both_one_node : OneNode → (journal slots : List ℕ) (node other : Node) → BothStandFor journal slots node → BothStandFor journal slots other → node ≡ other
both_one_node only journal slots node other one two = only journal node other one.stands two.stands

pub both_not_damaged : OneNode → NotBoth → (journal slots : List ℕ) (node : Node) (of_slots : Bool) (offset : ℕ) → BothStandFor journal slots node → AreDamaged of_slots journal slots offset → ⊥
both_not_damaged only never journal slots node false offset both damaged = never journal node offset both.stands damaged
both_not_damaged only never journal slots node true offset both damaged =
    none_past node slots offset both.within (subst (λ (n : Node). IsLowestPast n (length slots) offset) (only journal damaged.0 node damaged.1 both.stands) damaged.2)

pub one_damage : OneNode → NotBoth → OneFault → (journal slots : List ℕ) (of_slots of_others : Bool) (offset place : ℕ) → AreDamaged of_slots journal slots offset → AreDamaged of_others journal slots place → (of_slots ≡ of_others) × (offset ≡ place)
one_damage only never fault journal slots false false offset place one two = (refl, fault journal offset place one two)
one_damage only never fault journal slots false true offset place one two = absurd (never journal two.0 offset two.1 one)
one_damage only never fault journal slots true false offset place one two = absurd (never journal one.0 place one.1 two)
one_damage only never fault journal slots true true offset place one two =
    (refl, one_past two.0 (length slots) offset place (subst (λ (n : Node). IsLowestPast n (length slots) offset) (only journal one.0 two.0 one.1 two.1) one.2) two.2)

pub both_or_damaged : (journal slots : List ℕ) (node : Node) → StandsFor journal node → BothStandFor journal slots node ⊎ ((offset : ℕ) × AreDamaged true journal slots offset)
both_or_damaged journal slots node stands = elim (looked node (length slots) 16384) [
  | inl within ↦ inl (record { stands = stands; within = λ slot used. within slot used (stands_below journal node stands slot used) })
  | inr found ↦ inr (found.0, (node, stands, found.1))
]

-- ---- what a load leaves

left_alone_back : (before after : List ℕ) → IsLeftAlone before after → IsLeftAlone after before
left_alone_back before after (inl same) = inl (sym same)
left_alone_back before after (inr short) = inr (short.1, short.0)

stands_alike : StandAlike → (before after : List ℕ) (node : Node) → IsLeftAlone before after → StandsFor before node → StandsFor after node
stands_alike alike before after node alone stands = (stands.0, alike before after stands.0 alone stands.1, stands.2)

pub both_alike : StandAlike → (before after slots : List ℕ) (node : Node) → IsLeftAlone before after → BothStandFor before slots node → BothStandFor after slots node
both_alike alike before after slots node alone both = record { stands = stands_alike alike before after node alone both.stands; within = both.within }

damaged_alike : StandAlike → (before after : List ℕ) (offset : ℕ) → IsLeftAlone before after → IsDamagedDisk before offset → IsDamagedDisk after offset
damaged_alike alike before after offset (inl same) damaged = subst (λ (l : List ℕ). IsDamagedDisk l offset) (sym same) damaged
damaged_alike alike before after offset (inr short) (inl damaged) = absurd (omega (arith, short.0, damaged.0))
damaged_alike alike before after offset (inr short) (inr (bodies, journal, fault)) = inr (bodies, alike before after bodies (inr short) journal, fault)

pub damage_alike : StandAlike → (before after slots : List ℕ) (of_slots : Bool) (offset : ℕ) → IsLeftAlone before after → AreDamaged of_slots before slots offset → AreDamaged of_slots after slots offset
damage_alike alike before after slots false offset alone damaged = damaged_alike alike before after offset alone damaged
damage_alike alike before after slots true offset alone damaged = (damaged.0, stands_alike alike before after damaged.0 alone damaged.1, damaged.2)

pub blocks_alike : StandAlike → (before after slots : List ℕ) (contents : Block → Content) → IsLeftAlone before after → ((kept : Node) → StandsFor before kept → HaveAll contents kept slots) → (kept : Node) → StandsFor after kept → HaveAll contents kept slots
blocks_alike alike before after slots contents alone have kept stands = have kept (stands_alike alike after before kept (left_alone_back before after alone) stands)
