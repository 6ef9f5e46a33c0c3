-- Where words break off from the grammar of a transfer.
use Rattle.std.proofs.Common.{◌≡◌, ◌≢◌, inl, inr, ⊎_elim, ℕ, zero, suc, ◌+◌, ◌-◌, ◌<◌, ◌≤◌, Bool, true, false, List, [], ◌∷◌, ◌++◌, map, get_or, Option, None, Some, length, take, drop, codes, refl, sym, ◌∙◌, ap, subst, arith}
use Rattle.std.specs.Prelude.{String, ◌==◌}
use Rattle.std.specs.String.{string_bytes, string_len}
use Rattle.std.specs.declared.alloc.Global.{Global}
use Rattle.std.proofs.lemmas.Bool.{eqb-true, eqb-false}
use Rattle.std.proofs.lemmas.List.{append-nil, take-append-drop, take_all}
use Rattle.oz_cluster.specs.declared.files.words.Way.{Way}
use Rattle.oz_cluster.specs.declared.files.words.Way.TheVariants.{Put, Get}
use Rattle.oz_cluster.specs.files.Words.{BeginsTransfer, IsFirstFault, IsTransfer, IsTransferOf, IsTransferWith, verb_of}
use Rattle.oz_command.specs.Paths.{key_in, key_path}
use Rattle.oz_command.specs.declared.paths.KeyPath.{KeyPath}
use Rattle.oz_command.specs.command_line.Words.{BeginsRun, IsRun, IsRunWith, IsFirstFault as IsFirstFaultOfRun}
use Rattle.oz_command.specs.declared.command_line.words.TheConstants.{DEFAULT_NODES, DEFAULT_WORKERS}

-- any folder, and any key
abbrev dot : List ℕ
dot = codes "."

abbrev slash : List ℕ
slash = codes "/"

slash_is : key_in slash ≡ Some (key_path [])
unfolding key_in
slash_is = refl

-- a run with no options
run_in : (dir : List ℕ) → 0 < length dir → IsRunWith (codes "run" ∷ dir ∷ []) DEFAULT_NODES DEFAULT_WORKERS
run_in dir some = record { said_nodes = None; said_workers = None; said = (refl, some, (refl, refl)); nodes_are = refl; workers_are = refl }

-- what some words begin

with_dir : (way : Way) (dir : List ℕ) → 0 < length dir → IsTransfer (verb_of way ∷ dir ∷ slash ∷ [])
with_dir way dir some = (way, (key_path [], DEFAULT_NODES, DEFAULT_WORKERS, (refl, slash_is, run_in dir some)))

begins_none : BeginsTransfer []
begins_none = (verb_of Put ∷ dot ∷ slash ∷ [], with_dir Put dot (omega arith))

begins_verb : (way : Way) (verb : List ℕ) → verb ≡ verb_of way → BeginsTransfer (verb ∷ [])
begins_verb way verb is = (dot ∷ slash ∷ [], subst (λ (v : List ℕ). IsTransfer (v ∷ dot ∷ slash ∷ [])) (sym is) (with_dir way dot (omega arith)))

begins_dir : (way : Way) (verb dir : List ℕ) → verb ≡ verb_of way → 0 < length dir → BeginsTransfer (verb ∷ dir ∷ [])
begins_dir way verb dir is some = (slash ∷ [], subst (λ (v : List ℕ). IsTransfer (v ∷ dir ∷ slash ∷ [])) (sym is) (with_dir way dir some))

-- what no transfer has

other_verb : (verb : List ℕ) (rest : List (List ℕ)) → ((way : Way) → verb ≡ verb_of way → ⊥) → IsTransfer (verb ∷ rest) → ⊥
other_verb verb [] other is = is.1.3
other_verb verb (dir ∷ []) other is = is.1.3
other_verb verb (dir ∷ key ∷ options) other is = other is.0 is.1.3.0

no_folder : (verb dir : List ℕ) (rest : List (List ℕ)) → length dir ≡ 0 → IsTransfer (verb ∷ dir ∷ rest) → ⊥
no_folder verb dir [] none is = is.1.3
no_folder verb dir (key ∷ options) none is = let some = is.1.3.2.said.1 in absurd (omega (arith, none, some))

no_key : (verb dir key : List ℕ) (rest : List (List ℕ)) → key_in key ≡ None → IsTransfer (verb ∷ dir ∷ key ∷ rest) → ⊥
no_key verb dir key rest none is = absurd (cc (sym none ∙ is.1.3.1))

-- the first fault before the options

pub fault_at_none : IsFirstFault [] 1
fault_at_none = record { counted = omega arith; prefix = begins_none; fault = inr (refl, λ is. is.1.3) }

pub fault_at_verb : (verb : List ℕ) (rest : List (List ℕ)) → ((way : Way) → verb ≡ verb_of way → ⊥) → IsFirstFault (verb ∷ rest) 1
fault_at_verb verb rest other = record { counted = omega arith; prefix = begins_none; fault = inl (omega arith, λ b. other_verb verb b.0 other b.1) }

pub fault_behind_verb : (way : Way) (verb : List ℕ) → verb ≡ verb_of way → IsFirstFault (verb ∷ []) 2
fault_behind_verb way verb is = record { counted = omega arith; prefix = begins_verb way verb is; fault = inr (refl, λ is. is.1.3) }

pub fault_at_dir : (way : Way) (verb dir : List ℕ) (rest : List (List ℕ)) → verb ≡ verb_of way → length dir ≡ 0 → IsFirstFault (verb ∷ dir ∷ rest) 2
fault_at_dir way verb dir rest is none =
    record { counted = omega arith; prefix = begins_verb way verb is; fault = inl (omega arith, λ b. no_folder verb dir b.0 none b.1) }

pub fault_behind_dir : (way : Way) (verb dir : List ℕ) → verb ≡ verb_of way → 0 < length dir → IsFirstFault (verb ∷ dir ∷ []) 3
fault_behind_dir way verb dir is some = record { counted = omega arith; prefix = begins_dir way verb dir is some; fault = inr (refl, λ is. is.1.3) }

pub fault_at_key : (way : Way) (verb dir key : List ℕ) (rest : List (List ℕ)) → verb ≡ verb_of way → 0 < length dir → key_in key ≡ None → IsFirstFault (verb ∷ dir ∷ key ∷ rest) 3
fault_at_key way verb dir key rest is some none =
    record { counted = omega arith; prefix = begins_dir way verb dir is some; fault = inl (omega arith, λ b. no_key verb dir key b.0 none b.1) }

-- the options are those of a run

module _ (way : Way) (verb dir key : List ℕ) (path : KeyPath) (is : verb ≡ verb_of way) (named : key_in key ≡ Some path) where
  as_transfer : (options : List (List ℕ)) → IsRun (codes "run" ∷ dir ∷ options) → IsTransfer (verb ∷ dir ∷ key ∷ options)
  as_transfer options run = (way, (path, run.0, run.1, (is, named, run.2)))

  as_run : (options : List (List ℕ)) → IsTransfer (verb ∷ dir ∷ key ∷ options) → IsRun (codes "run" ∷ dir ∷ options)
  as_run options it = (it.1.1, it.1.2, it.1.3.2)

  behind : (options : List (List ℕ)) (n place : ℕ) → place ≡ suc (suc (suc n)) → IsFirstFaultOfRun (codes "run" ∷ dir ∷ options) place → IsFirstFault (verb ∷ dir ∷ key ∷ options) (place + 1)
  behind options n place at wrong = record {
    counted = omega arith;
    prefix = subst (λ (k : ℕ). BeginsTransfer (take k (verb ∷ dir ∷ key ∷ options))) (sym here)
        (let begins : BeginsRun (take (suc (suc n)) (codes "run" ∷ dir ∷ options)) = subst (λ (k : ℕ). BeginsRun (take k (codes "run" ∷ dir ∷ options))) there wrong.prefix in (begins.0, as_transfer (take n options ++ begins.0) begins.1));
    fault = ⊎_elim
        (λ other. inl (
          omega (arith, other.0),
          λ b.
              other.1 (subst (λ (k : ℕ). BeginsRun (take k (codes "run" ∷ dir ∷ options))) (sym at)
              (let begins : BeginsTransfer (take (suc (suc (suc (suc n)))) (verb ∷ dir ∷ key ∷ options)) = subst (λ (k : ℕ). BeginsTransfer (take k (verb ∷ dir ∷ key ∷ options))) next b in (begins.0, as_run (take (suc n) options ++ begins.0) begins.1))),
        ))
        (λ past. inr (omega (arith, past.0), λ it. past.1 (as_run options it)))
        wrong.fault;
  }
    where
      there : place - 1 ≡ suc (suc n)
      there = omega (arith, at)

      here : place + 1 - 1 ≡ suc (suc (suc n))
      here = omega (arith, at)

      next : place + 1 ≡ suc (suc (suc (suc n)))
      next = omega (arith, at)

  -- a run with this folder breaks off at its options
  pub fault_in_options : 0 < length dir → (options : List (List ℕ)) (place : ℕ) → IsFirstFaultOfRun (codes "run" ∷ dir ∷ options) place → IsFirstFault (verb ∷ dir ∷ key ∷ options) (place + 1)
  fault_in_options some options place wrong = by place refl
    where
      whole : IsRun (codes "run" ∷ dir ∷ [])
      whole = (DEFAULT_NODES, DEFAULT_WORKERS, run_in dir some)

      by : (n : ℕ) → place ≡ n → IsFirstFault (verb ∷ dir ∷ key ∷ options) (place + 1)
      by zero at = let counted = wrong.counted in absurd (omega (arith, counted, at))
      by (suc zero) at = absurd (⊎_elim
          (λ other. other.1 (subst (λ (k : ℕ). BeginsRun (take k (codes "run" ∷ dir ∷ options))) (sym at) (dir ∷ [], whole)))
          (λ past. let end = past.0 in absurd (omega (arith, end, at))) wrong.fault)
      by (suc (suc zero)) at = absurd (⊎_elim
          (λ other. other.1 (subst (λ (k : ℕ). BeginsRun (take k (codes "run" ∷ dir ∷ options))) (sym at) ([], whole)))
          (λ past. let end = past.0 in absurd (omega (arith, end, at))) wrong.fault)
      by (suc (suc (suc n))) at = behind options n place at wrong

-- words of a transfer have no fault
pub transfer_has_no_fault : (words : List (List ℕ)) (place : ℕ) → IsTransfer words → IsFirstFault words place → ⊥
transfer_has_no_fault words place is wrong = ⊎_elim
    (λ other. other.1 (drop place words, subst IsTransfer (sym (take-append-drop place words)) is))
    (λ past. past.1 is) wrong.fault

-- words of a transfer say one number of datanodes, since those of a run do
pub one_transfer : ((words : List (List ℕ)) (nodes workers other_nodes other_workers : ℕ) → IsRunWith words nodes workers → IsRunWith words other_nodes other_workers → nodes ≡ other_nodes)
    → (words : List (List ℕ)) (way other_way : Way) (path other_path : KeyPath) (nodes workers other_nodes other_workers : ℕ) → IsTransferWith words way path nodes workers
    → IsTransferWith words other_way other_path other_nodes other_workers → nodes ≡ other_nodes
one_transfer one [] way other_way path other_path nodes workers other_nodes other_workers is it = absurd is
one_transfer one (verb ∷ []) way other_way path other_path nodes workers other_nodes other_workers is it = absurd is
one_transfer one (verb ∷ dir ∷ []) way other_way path other_path nodes workers other_nodes other_workers is it = absurd is
one_transfer one (verb ∷ dir ∷ key ∷ options) way other_way path other_path nodes workers other_nodes other_workers is it =
    one (codes "run" ∷ dir ∷ options) nodes workers other_nodes other_workers is.2 it.2

-- what doesn't get puts, and what doesn't put gets
pub put_of : (way : Way) → (way ≡ Get → ⊥) → way ≡ Put
put_of Put none = refl
put_of Get none = absurd (none refl)

pub get_of : (way : Way) → (way ≡ Put → ⊥) → way ≡ Get
get_of Put none = absurd (none refl)
get_of Get none = refl

-- ---- the front of words

-- what stands behind the first
abbrev pub rest_of : {S : Type 0} → List S → List S
rest_of words = take (length words - 1) (drop 1 words)

module _ {S : Type 0} (bytes : S → List ℕ) where
  pub no_words : (words : List S) → length words < 1 → map bytes words ≡ []
  no_words [] none = refl
  no_words (first ∷ rest) none = absurd (omega (arith, none))

  pub first_word : (words : List S) (word : S) → 1 ≤ length words → word ≡ get_or words 0 word → map bytes words ≡ bytes word ∷ map bytes (rest_of words)
  first_word [] word some is = absurd (omega (arith, some))
  first_word (first ∷ rest) word some is =
      let same : word ≡ first = is in
      ap (λ (s : S). bytes s ∷ map bytes rest) (sym same) ∙ ap (λ (l : List S). bytes word ∷ map bytes l) (sym (take_all (length (first ∷ rest) - 1) rest (omega arith)))

pub no_bytes : (text : String Global) (empty : Bool) → empty ≡ (string_len text == 0) → empty ≡ true → length (string_bytes text) ≡ 0
no_bytes text empty is e = omega (arith, text.bytes.ok.0, eqb-true (string_len text) 0 (sym is ∙ e))

pub some_bytes : (text : String Global) (empty : Bool) → empty ≡ (string_len text == 0) → empty ≡ false → 0 < length (string_bytes text)
some_bytes text empty is e = let none : string_len text ≢ 0 = eqb-false (string_len text) 0 (sym is ∙ e) in omega (arith, text.bytes.ok.0)
