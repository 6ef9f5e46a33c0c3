-- Where words break off from the grammar of a run, and where they are one.
use Rattle.std.proofs.Common.{option_and_then, option_map, is_some, ⊎_elim, ◌≡◌, ◌≢◌, ℕ, ◌+◌, ◌-◌, ◌<◌, ◌≤◌, Bool, true, false, List, [], ◌∷◌, ◌++◌, Option, None, Some, IsSome, length, take, drop, get_or, refl, sym, ap, ◌∙◌, subst, inl, inr, map, arith, append_assoc, length-append, suc, slice_get}
use Rattle.std.specs.Prelude.{codes, not, unwrap_or, String, ◌==◌}
use Rattle.std.specs.String.{string_bytes, string_len}
use Rattle.std.specs.declared.alloc.Global.{Global}
use Rattle.std.proofs.lemmas.Bool.{eqb-true, eqb-false}
use Rattle.std.proofs.lemmas.List.{length-map, append-nil, length-take-le, take-append-drop}
use Rattle.std.proofs.lemmas.Option.{slice_get-map, slice_get_read, slice_get_within, slice_get_cases, get_or_from_slice_get}
use Rattle.std.proofs.Math.ListN.{drop_of_length-le}
use Rattle.std.proofs.Math.Seq.{take-append_seam, take-append-add, take-length, take-add, drop-cons}
use Rattle.std.specs.Str.{bytes_eq}
use Rattle.std.proofs.lemmas.Slice.Eq.{bytes_eq-Decides}
use Rattle.oz_command.specs.Numbers.{number_in, digits_value}
use Rattle.oz_nodes.specs.declared.nodes.TheConstants.{FEWEST_NODES, MOST_NODES}
use Rattle.oz_command.specs.declared.command_line.words.TheConstants.{DEFAULT_NODES, DEFAULT_WORKERS, MOST_WORKERS}
use Rattle.oz_command.proofs.command_line_lemmas.OptionsLemmas.{AreWithin, options_within, no_option, no_end, no_nodes, no_workers, with_nodes, with_workers}
use Rattle.oz_command.specs.command_line.Words.{IsRunSaying, IsRun, BeginsRun, IsFirstFault}

abbrev run : List ℕ
run = codes "run"

-- any folder
abbrev dot : List ℕ
dot = codes "."

-- a count that each option may have
abbrev three : List ℕ
three = codes "3"

three_nodes : number_in FEWEST_NODES MOST_NODES three ≡ Some 3
unfolding number_in digits_value
three_nodes = refl

three_workers : number_in 1 MOST_WORKERS three ≡ Some 3
unfolding number_in digits_value
three_workers = refl

-- Texts that are compared, and texts without bytes

not_false : (b : Bool) → not b ≡ false → b ≡ true
not_false true e = refl
not_false false e = absurd cc

pub same_text : (text bytes word : List ℕ) (other : Bool) → text ≡ bytes → other ≡ not (bytes_eq text word) → other ≡ false → bytes ≡ word
same_text text bytes word other spelt is e = sym spelt ∙ (bytes_eq-Decides text word).0 (not_false (bytes_eq text word) (sym is ∙ e))

pub other_text : (text bytes word : List ℕ) (other : Bool) → text ≡ bytes → other ≡ not (bytes_eq text word) → other ≡ true → bytes ≢ word
other_text text bytes word other spelt is e same =
    let yes : bytes_eq text word ≡ true = (bytes_eq-Decides text word).1 (spelt ∙ same) in
    let no : not true ≡ true = sym (ap not yes) ∙ sym is ∙ e in
    absurd cc

pub is_text : (text bytes word : List ℕ) (same : Bool) → text ≡ bytes → same ≡ bytes_eq text word → same ≡ true → bytes ≡ word
is_text text bytes word same spelt is e = sym spelt ∙ (bytes_eq-Decides text word).0 (sym is ∙ e)

pub isnt_text : (text bytes word : List ℕ) (same : Bool) → text ≡ bytes → same ≡ bytes_eq text word → same ≡ false → bytes ≢ word
isnt_text text bytes word same spelt is e there =
    let yes : false ≡ true = sym e ∙ is ∙ (bytes_eq-Decides text word).1 (spelt ∙ there) in
    absurd cc

pub unsaid : (said : Option ℕ) (none : Bool) → is_some said ≡ not none → none ≡ true → said ≡ None
unsaid None none is e = refl
unsaid (Some count) none is e = let no : true ≡ not true = is ∙ ap not e in absurd cc

pub is_said : (said : Option ℕ) (none : Bool) → is_some said ≡ not none → none ≡ false → IsSome said
is_said said none is e = is ∙ ap not e

pub no_bytes : (text : String Global) (empty : Bool) → empty ≡ (string_len text == 0) → empty ≡ true → length (string_bytes text) ≡ 0
no_bytes text empty is e = omega (arith, text.bytes.ok.0, eqb-true (string_len text) 0 (sym is ∙ e))

pub some_bytes : (text : String Global) (empty : Bool) → empty ≡ (string_len text == 0) → empty ≡ false → 0 < length (string_bytes text)
some_bytes text empty is e = let none : string_len text ≢ 0 = eqb-false (string_len text) 0 (sym is ∙ e) in omega (arith, text.bytes.ok.0)

-- What words say is a run by some numbers

pub run_saying : (words : List (List ℕ)) (nodes workers : Option ℕ) → IsRunSaying words nodes workers → IsRun words
run_saying words nodes workers said = (_, _, record { said_nodes = nodes; said_workers = workers; said = said; nodes_are = refl; workers_are = refl })

begins_saying : (words : List (List ℕ)) (nodes workers : Option ℕ) → IsRunSaying words nodes workers → BeginsRun words
begins_saying words nodes workers said = ([], subst IsRun (sym (append-nil words)) (run_saying words nodes workers said))

-- A fault behind words that begin a run

seam : (front : List (List ℕ)) (rest : List (List ℕ)) → take (length front + 1 - 1) (front ++ rest) ≡ front
seam front rest = let same : length front + 1 - 1 ≡ length front = omega arith in rw same (take-append_seam front rest)

fault_at : (front : List (List ℕ)) (word : List ℕ) (rest : List (List ℕ)) → BeginsRun front → ¬ BeginsRun (front ++ word ∷ []) → IsFirstFault (front ++ word ∷ rest) (length front + 1)
fault_at front word rest begins wrong =
    let with_word : take (length front + 1) (front ++ word ∷ rest) ≡ front ++ word ∷ [] = take-append-add front (word ∷ rest) 1 in
    record {
      counted = omega arith;
      prefix = rw (seam front (word ∷ rest)) begins;
      fault = inl (omega (arith, length-append front (word ∷ rest)), rw with_word wrong);
    }

fault_behind : (front : List (List ℕ)) → BeginsRun front → ¬ IsRun front → IsFirstFault front (length front + 1)
fault_behind front begins wrong =
    let whole : take (length front + 1 - 1) front ≡ front = let same : length front + 1 - 1 ≡ length front = omega arith in rw same (take-length front) in
    record { counted = omega arith; prefix = rw whole begins; fault = inr (refl, wrong) }

-- What no run has at its front

other_verb : (verb : List ℕ) (rest : List (List ℕ)) → verb ≢ run → ¬ IsRun (verb ∷ rest)
other_verb verb [] other is = is.2.said
other_verb verb (dir ∷ rest) other is = other is.2.said.0

no_folder : (verb dir : List ℕ) (rest : List (List ℕ)) → length dir ≡ 0 → ¬ IsRun (verb ∷ dir ∷ rest)
no_folder verb dir rest none is = absurd (omega (arith, is.2.said.1))

-- What no run has behind words that are one

not_saying : (words : List (List ℕ)) → ((nodes workers : Option ℕ) → ¬ IsRunSaying words nodes workers) → ¬ IsRun words
not_saying words none is = none is.2.said_nodes is.2.said_workers is.2.said

other_option : (front : List (List ℕ)) (name : List ℕ) (rest : List (List ℕ)) (nodes workers : Option ℕ) → IsRunSaying front nodes workers → (name ≡ codes "--nodes" → IsSome nodes) → (name ≡ codes "--workers" → IsSome workers) → ¬ IsRun (front ++ name ∷ rest)
other_option [] name rest nodes workers said of_nodes of_workers is = said
other_option (verb ∷ []) name rest nodes workers said of_nodes of_workers is = said
other_option (verb ∷ dir ∷ options) name rest nodes workers said of_nodes of_workers is =
    no_option options name rest nodes workers _ _ said.2 of_nodes of_workers is.2.said.2

option_alone : (front : List (List ℕ)) (name : List ℕ) (nodes workers : Option ℕ) → IsRunSaying front nodes workers → ¬ IsRun (front ++ name ∷ [])
option_alone [] name nodes workers said is = said
option_alone (verb ∷ []) name nodes workers said is = said
option_alone (verb ∷ dir ∷ options) name nodes workers said is = no_end options name nodes workers _ _ said.2 is.2.said.2

wrong_nodes : (front : List (List ℕ)) (number : List ℕ) (rest : List (List ℕ)) (nodes workers : Option ℕ) → IsRunSaying front nodes workers → number_in FEWEST_NODES MOST_NODES number ≡ None → ¬ IsRun (front ++ codes "--nodes" ∷ number ∷ rest)
wrong_nodes [] number rest nodes workers said none is = said
wrong_nodes (verb ∷ []) number rest nodes workers said none is = said
wrong_nodes (verb ∷ dir ∷ options) number rest nodes workers said none is = no_nodes options number rest nodes workers _ _ said.2 none is.2.said.2

wrong_workers : (front : List (List ℕ)) (number : List ℕ) (rest : List (List ℕ)) (nodes workers : Option ℕ) → IsRunSaying front nodes workers → number_in 1 MOST_WORKERS number ≡ None → ¬ IsRun (front ++ codes "--workers" ∷ number ∷ rest)
wrong_workers [] number rest nodes workers said none is = said
wrong_workers (verb ∷ []) number rest nodes workers said none is = said
wrong_workers (verb ∷ dir ∷ options) number rest nodes workers said none is = no_workers options number rest nodes workers _ _ said.2 none is.2.said.2

-- One more option

pub run_with_nodes : (front : List (List ℕ)) (workers : Option ℕ) (number : List ℕ) (count : ℕ) → number_in FEWEST_NODES MOST_NODES number ≡ Some count → IsRunSaying front None workers → IsRunSaying (front ++ codes "--nodes" ∷ number ∷ []) (Some count) workers
run_with_nodes [] workers number count is said = absurd said
run_with_nodes (verb ∷ []) workers number count is said = absurd said
run_with_nodes (verb ∷ dir ∷ options) workers number count is said = (said.0, said.1, with_nodes options workers number count is said.2)

pub run_with_workers : (front : List (List ℕ)) (nodes : Option ℕ) (number : List ℕ) (count : ℕ) → number_in 1 MOST_WORKERS number ≡ Some count → IsRunSaying front nodes None → IsRunSaying (front ++ codes "--workers" ∷ number ∷ []) nodes (Some count)
run_with_workers [] nodes number count is said = absurd said
run_with_workers (verb ∷ []) nodes number count is said = absurd said
run_with_workers (verb ∷ dir ∷ options) nodes number count is said = (said.0, said.1, with_workers options nodes number count is said.2)

-- Where words break off

begins_with : (front : List (List ℕ)) (word : List ℕ) → (BeginsRun (front ++ word ∷ []) → (rest : List (List ℕ)) × IsRun (front ++ word ∷ rest))
begins_with front word begins = (begins.0, subst IsRun (append_assoc front (word ∷ []) begins.0) begins.1)

pub fault_at_option : (front : List (List ℕ)) (name : List ℕ) (rest : List (List ℕ)) (nodes workers : Option ℕ) → IsRunSaying front nodes workers → (name ≡ codes "--nodes" → IsSome nodes) → (name ≡ codes "--workers" → IsSome workers) → IsFirstFault (front ++ name ∷ rest) (length front + 1)
fault_at_option front name rest nodes workers said of_nodes of_workers =
    fault_at front name rest (begins_saying front nodes workers said)
    (λ begins. let more = begins_with front name begins in other_option front name more.0 nodes workers said of_nodes of_workers more.1)

begins_three : (front : List (List ℕ)) (name : List ℕ) → IsRun (front ++ name ∷ three ∷ []) → BeginsRun (front ++ name ∷ [])
begins_three front name run = (three ∷ [], subst IsRun (sym (append_assoc front (name ∷ []) (three ∷ []))) run)

begins_nodes : (front : List (List ℕ)) (workers : Option ℕ) → IsRunSaying front None workers → BeginsRun (front ++ codes "--nodes" ∷ [])
begins_nodes front workers said = begins_three front (codes "--nodes") (run_saying _ _ _ (run_with_nodes front workers three 3 three_nodes said))

begins_workers : (front : List (List ℕ)) (nodes : Option ℕ) → IsRunSaying front nodes None → BeginsRun (front ++ codes "--workers" ∷ [])
begins_workers front nodes said = begins_three front (codes "--workers") (run_saying _ _ _ (run_with_workers front nodes three 3 three_workers said))

longer : (front : List (List ℕ)) (name : List ℕ) → length (front ++ name ∷ []) + 1 ≡ length front + 2
longer front name = omega (arith, length-append front (name ∷ []))

fault_past : (front : List (List ℕ)) (name : List ℕ) (nodes workers : Option ℕ) → IsRunSaying front nodes workers → BeginsRun (front ++ name ∷ []) → IsFirstFault (front ++ name ∷ []) (length front + 2)
fault_past front name nodes workers said begins =
    subst (IsFirstFault (front ++ name ∷ [])) (longer front name)
    (fault_behind (front ++ name ∷ []) begins (option_alone front name nodes workers said))

fault_at_number : (front : List (List ℕ)) (name number : List ℕ) (rest : List (List ℕ)) → BeginsRun (front ++ name ∷ []) → ((more : List (List ℕ)) → ¬ IsRun (front ++ name ∷ number ∷ more)) → IsFirstFault (front ++ name ∷ number ∷ rest) (length front + 2)
fault_at_number front name number rest begins wrong =
    let fault = fault_at (front ++ name ∷ []) number rest begins
    (λ more. let there = begins_with (front ++ name ∷ []) number more in wrong there.0 (subst IsRun (append_assoc front (name ∷ []) (number ∷ there.0)) there.1)) in
    subst (λ words. IsFirstFault words (length front + 2)) (append_assoc front (name ∷ []) (number ∷ rest))
    (subst (IsFirstFault ((front ++ name ∷ []) ++ number ∷ rest)) (longer front name) fault)

pub fault_past_nodes : (front : List (List ℕ)) (workers : Option ℕ) → IsRunSaying front None workers → IsFirstFault (front ++ codes "--nodes" ∷ []) (length front + 2)
fault_past_nodes front workers said = fault_past front (codes "--nodes") None workers said (begins_nodes front workers said)

pub fault_past_workers : (front : List (List ℕ)) (nodes : Option ℕ) → IsRunSaying front nodes None → IsFirstFault (front ++ codes "--workers" ∷ []) (length front + 2)
fault_past_workers front nodes said = fault_past front (codes "--workers") nodes None said (begins_workers front nodes said)

pub fault_at_nodes : (front : List (List ℕ)) (number : List ℕ) (rest : List (List ℕ)) (workers : Option ℕ) → IsRunSaying front None workers → number_in FEWEST_NODES MOST_NODES number ≡ None → IsFirstFault (front ++ codes "--nodes" ∷ number ∷ rest) (length front + 2)
fault_at_nodes front number rest workers said none =
    fault_at_number front (codes "--nodes") number rest (begins_nodes front workers said) (λ more. wrong_nodes front number more None workers said none)

pub fault_at_workers : (front : List (List ℕ)) (number : List ℕ) (rest : List (List ℕ)) (nodes : Option ℕ) → IsRunSaying front nodes None → number_in 1 MOST_WORKERS number ≡ None → IsFirstFault (front ++ codes "--workers" ∷ number ∷ rest) (length front + 2)
fault_at_workers front number rest nodes said none =
    fault_at_number front (codes "--workers") number rest (begins_workers front nodes said) (λ more. wrong_workers front number more nodes None said none)

-- Where words break off before their options

folder : IsRunSaying (run ∷ dot ∷ []) None None
folder = (refl, omega arith, (refl, refl))

pub front_said : (verb dir : List ℕ) → verb ≡ codes "run" → 0 < length dir → IsRunSaying (verb ∷ dir ∷ []) None None
front_said verb dir is some = (is, some, (refl, refl))

begins_run : BeginsRun []
begins_run = (run ∷ dot ∷ [], run_saying (run ∷ dot ∷ []) None None folder)

begins_verb : (verb : List ℕ) → verb ≡ codes "run" → BeginsRun (verb ∷ [])
begins_verb verb is = (dot ∷ [], run_saying (verb ∷ dot ∷ []) None None (front_said verb dot is (omega arith)))

pub fault_1 : (words : List (List ℕ)) → length words ≡ 0 → IsFirstFault words 1
fault_1 [] none = record { counted = omega arith; prefix = begins_run; fault = inr (refl, λ is. is.2.said) }
fault_1 (first ∷ rest) none = absurd (omega arith)

pub fault_at_verb : (verb : List ℕ) (rest : List (List ℕ)) → verb ≢ codes "run" → IsFirstFault (verb ∷ rest) 1
fault_at_verb verb rest other = record { counted = omega arith; prefix = begins_run; fault = inl (omega arith, λ b. other_verb verb b.0 other b.1) }

pub fault_2 : (verb : List ℕ) (rest : List (List ℕ)) → verb ≡ codes "run" → length rest ≡ 0 → IsFirstFault (verb ∷ rest) 2
fault_2 verb [] is none = record { counted = omega arith; prefix = begins_verb verb is; fault = inr (refl, λ is. is.2.said) }
fault_2 verb (dir ∷ rest) is none = absurd (omega arith)

pub fault_at_dir : (verb dir : List ℕ) (rest : List (List ℕ)) → verb ≡ codes "run" → length dir ≡ 0 → IsFirstFault (verb ∷ dir ∷ rest) 2
fault_at_dir verb dir rest is none = record { counted = omega arith; prefix = begins_verb verb is; fault = inl (omega arith, λ b. no_folder verb dir b.0 none b.1) }

-- Words that are a run are within its limits

or_default : (least most unsaid : ℕ) (said : Option ℕ) → least ≤ unsaid → unsaid ≤ most → ((count : ℕ) → said ≡ Some count → (least ≤ count) × (count ≤ most)) → (least ≤ unwrap_or said unsaid) × (unwrap_or said unsaid ≤ most)
or_default least most unsaid None low high within = (low, high)
or_default least most unsaid (Some count) low high within = within count refl

saying_within : (words : List (List ℕ)) (nodes workers : Option ℕ) → IsRunSaying words nodes workers → AreWithin nodes workers
saying_within [] nodes workers said = absurd said
saying_within (verb ∷ []) nodes workers said = absurd said
saying_within (verb ∷ dir ∷ options) nodes workers said = options_within options nodes workers said.2

abbrev pub AreLimited : ℕ → ℕ → Type 0
AreLimited nodes workers = (FEWEST_NODES ≤ nodes) × (nodes ≤ MOST_NODES) × (1 ≤ workers) × (workers ≤ MOST_WORKERS)

pub run_within : (words : List (List ℕ)) (said_nodes said_workers : Option ℕ) (nodes workers : ℕ) → IsRunSaying words said_nodes said_workers → nodes ≡ unwrap_or said_nodes DEFAULT_NODES → workers ≡ unwrap_or said_workers DEFAULT_WORKERS → AreLimited nodes workers
run_within words said_nodes said_workers nodes workers said nodes_are workers_are =
    let all = saying_within words said_nodes said_workers said in
    let of_nodes = or_default FEWEST_NODES MOST_NODES DEFAULT_NODES said_nodes (omega arith) (omega arith) all.0 in
    let of_workers = or_default 1 MOST_WORKERS DEFAULT_WORKERS said_workers (omega arith) (omega arith) all.1 in
    (omega (arith, nodes_are, of_nodes.0), omega (arith, nodes_are, of_nodes.1), omega (arith, workers_are, of_workers.0), omega (arith, workers_are, of_workers.1))

-- What stands at the front of words
module _ {S : Type 0} (bytes : S → List ℕ) where
  pub front_0 : (words : List S) → length words < 1 → length (map bytes words) ≡ 0
  front_0 [] none = refl
  front_0 (first ∷ rest) none = absurd (omega arith)

  pub front_1 : (words : List S) (verb : S) → 1 ≤ length words → verb ≡ get_or words 0 verb → (rest : List (List ℕ)) × (map bytes words ≡ bytes verb ∷ rest) × (length words ≡ 1 + length rest)
  front_1 [] verb some is = absurd (omega arith)
  front_1 (first ∷ rest) verb some is =
      let e : verb ≡ first = is in
      (map bytes rest, rw e refl, omega (arith, length-map rest bytes))

  pub front_2 : (words : List S) (verb dir : S) → 2 ≤ length words → verb ≡ get_or words 0 verb → dir ≡ get_or words 1 dir → (rest : List (List ℕ)) × (map bytes words ≡ bytes verb ∷ bytes dir ∷ rest) × (length words ≡ 2 + length rest)
  front_2 [] verb dir some is at = absurd (omega arith)
  front_2 (first ∷ []) verb dir some is at = absurd (omega arith)
  front_2 (first ∷ second ∷ rest) verb dir some is at =
      let e : verb ≡ first = is in
      let f : dir ≡ second = at in
      (map bytes rest, rw (e, f) refl, omega (arith, length-map rest bytes))

-- Words up to a place, and the words there

pub word_there : {S : Type 0} (bytes : S → List ℕ) (words : List S) (place : ℕ) (word : S) → place < length words → word ≡ get_or words place word → slice_get (map bytes words) place ≡ Some (bytes word)
word_there bytes words place word within is = slice_get-map bytes words place ∙ ap (option_map bytes) (slice_get_read words (length words) place word refl within is)

drop_at : (words : List (List ℕ)) (place : ℕ) (word : List ℕ) → slice_get words place ≡ Some word → drop place words ≡ word ∷ drop (place + 1) words
drop_at words place word is =
    let head : get_or words place word ≡ word = get_or_from_slice_get words place word word is in
    let next : suc place ≡ place + 1 = omega arith in
    drop-cons words place word (slice_get_within words place word is) ∙ ap (λ first. first ∷ drop (suc place) words) head ∙ ap (λ n. word ∷ drop n words) next

drop_end : (words : List (List ℕ)) (place : ℕ) (word : List ℕ) → slice_get words place ≡ Some word → length words ≤ place + 1 → drop place words ≡ word ∷ []
drop_end words place word is past = drop_at words place word is ∙ ap (λ rest. word ∷ rest) (drop_of_length-le words past)

drop_two : (words : List (List ℕ)) (place : ℕ) (name number : List ℕ) → slice_get words place ≡ Some name → slice_get words (place + 1) ≡ Some number → drop place words ≡ name ∷ number ∷ drop (place + 2) words
drop_two words place name number is next =
    let further : place + 1 + 1 ≡ place + 2 = omega arith in
    drop_at words place name is ∙ ap (λ rest. name ∷ rest) (drop_at words (place + 1) number next ∙ ap (λ n. number ∷ drop n words) further)

take_two : (words : List (List ℕ)) (place : ℕ) (name number : List ℕ) → slice_get words place ≡ Some name → slice_get words (place + 1) ≡ Some number → take (place + 2) words ≡ take place words ++ name ∷ number ∷ []
take_two words place name number is next = take-add place 2 words ∙ ap (λ rest. take place words ++ take 2 rest) (drop_two words place name number is next)

-- A fault at a place, and one option more there

fault_of : (words behind : List (List ℕ)) (place more : ℕ) → place < length words → drop place words ≡ behind → IsFirstFault (take place words ++ behind) (length (take place words) + more) → IsFirstFault words (place + more)
fault_of words behind place more within is fault =
    let long : length (take place words) ≡ place = length-take-le place words (omega arith) in
    let whole : take place words ++ behind ≡ words = ap (λ rest. take place words ++ rest) (sym is) ∙ take-append-drop place words in
    subst (λ n. IsFirstFault words (n + more)) long (subst (λ all. IsFirstFault all (length (take place words) + more)) whole fault)

pub no_option_there : (words : List (List ℕ)) (place : ℕ) (name : List ℕ) (nodes workers : Option ℕ) → IsRunSaying (take place words) nodes workers → slice_get words place ≡ Some name → (name ≡ codes "--nodes" → IsSome nodes) → (name ≡ codes "--workers" → IsSome workers) → IsFirstFault words (place + 1)
no_option_there words place name nodes workers said is of_nodes of_workers =
    fault_of words (name ∷ drop (place + 1) words) place 1 (slice_get_within words place name is) (drop_at words place name is)
    (fault_at_option (take place words) name (drop (place + 1) words) nodes workers said of_nodes of_workers)

pub no_nodes_there : (words : List (List ℕ)) (place : ℕ) (name : List ℕ) (workers : Option ℕ) → IsRunSaying (take place words) None workers → slice_get words place ≡ Some name → name ≡ codes "--nodes" → option_and_then (number_in FEWEST_NODES MOST_NODES) (slice_get words (place + 1)) ≡ None → IsFirstFault words (place + 2)
no_nodes_there words place name workers said is named none =
    let here : slice_get words place ≡ Some (codes "--nodes") = is ∙ ap Some named in
    let within = slice_get_within words place name is in
    ⊎_elim
    (λ found. fault_of words (codes "--nodes" ∷ found.0 ∷ drop (place + 2) words) place 2 within (drop_two words place (codes "--nodes") found.0 here found.2)
    (fault_at_nodes (take place words) found.0 (drop (place + 2) words) workers said (sym (ap (option_and_then (number_in FEWEST_NODES MOST_NODES)) found.2) ∙ none)))
    (λ past. fault_of words (codes "--nodes" ∷ []) place 2 within (drop_end words place (codes "--nodes") here past.0)
    (fault_past_nodes (take place words) workers said))
    (slice_get_cases words (place + 1)).1

pub no_workers_there : (words : List (List ℕ)) (place : ℕ) (name : List ℕ) (nodes : Option ℕ) → IsRunSaying (take place words) nodes None → slice_get words place ≡ Some name → name ≡ codes "--workers" → option_and_then (number_in 1 MOST_WORKERS) (slice_get words (place + 1)) ≡ None → IsFirstFault words (place + 2)
no_workers_there words place name nodes said is named none =
    let here : slice_get words place ≡ Some (codes "--workers") = is ∙ ap Some named in
    let within = slice_get_within words place name is in
    ⊎_elim
    (λ found. fault_of words (codes "--workers" ∷ found.0 ∷ drop (place + 2) words) place 2 within (drop_two words place (codes "--workers") found.0 here found.2)
    (fault_at_workers (take place words) found.0 (drop (place + 2) words) nodes said (sym (ap (option_and_then (number_in 1 MOST_WORKERS)) found.2) ∙ none)))
    (λ past. fault_of words (codes "--workers" ∷ []) place 2 within (drop_end words place (codes "--workers") here past.0)
    (fault_past_workers (take place words) nodes said))
    (slice_get_cases words (place + 1)).1

pub nodes_there : (words : List (List ℕ)) (place : ℕ) (name : List ℕ) (workers : Option ℕ) (count : ℕ) → IsRunSaying (take place words) None workers → slice_get words place ≡ Some name → name ≡ codes "--nodes" → option_and_then (number_in FEWEST_NODES MOST_NODES) (slice_get words (place + 1)) ≡ Some count → (place + 2 ≤ length words) × IsRunSaying (take (place + 2) words) (Some count) workers
nodes_there words place name workers count said is named found =
    let here : slice_get words place ≡ Some (codes "--nodes") = is ∙ ap Some named in
    ⊎_elim
    (λ next. (
      omega (arith, next.1),
      subst (λ front. IsRunSaying front (Some count) workers) (sym (take_two words place (codes "--nodes") next.0 here next.2))
          (run_with_nodes (take place words) workers next.0 count (sym (ap (option_and_then (number_in FEWEST_NODES MOST_NODES)) next.2) ∙ found) said),
    ))
    (λ past. let none : None ≡ Some count = sym (ap (option_and_then (number_in FEWEST_NODES MOST_NODES)) past.1) ∙ found in absurd cc)
    (slice_get_cases words (place + 1)).1

pub workers_there : (words : List (List ℕ)) (place : ℕ) (name : List ℕ) (nodes : Option ℕ) (count : ℕ) → IsRunSaying (take place words) nodes None → slice_get words place ≡ Some name → name ≡ codes "--workers" → option_and_then (number_in 1 MOST_WORKERS) (slice_get words (place + 1)) ≡ Some count → (place + 2 ≤ length words) × IsRunSaying (take (place + 2) words) nodes (Some count)
workers_there words place name nodes count said is named found =
    let here : slice_get words place ≡ Some (codes "--workers") = is ∙ ap Some named in
    ⊎_elim
    (λ next. (
      omega (arith, next.1),
      subst (λ front. IsRunSaying front nodes (Some count)) (sym (take_two words place (codes "--workers") next.0 here next.2))
          (run_with_workers (take place words) nodes next.0 count (sym (ap (option_and_then (number_in 1 MOST_WORKERS)) next.2) ∙ found) said),
    ))
    (λ past. let none : None ≡ Some count = sym (ap (option_and_then (number_in 1 MOST_WORKERS)) past.1) ∙ found in absurd cc)
    (slice_get_cases words (place + 1)).1
