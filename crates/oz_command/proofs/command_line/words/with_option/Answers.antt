use Rattle.std.proofs.Common.{◌≡◌, ℕ, ◌+◌, ◌≤◌, List, Option, None, IsSome, length, map, take, sym, ◌∙◌, subst, arith}
use Rattle.std.specs.Prelude.{codes, String}
use Rattle.std.specs.String.{string_bytes}
use Rattle.std.specs.declared.alloc.Global.{Global}
use Rattle.std.proofs.lemmas.List.{length-map}
use Rattle.oz_command.specs.command_line.Words.{IsRunSaying}
use Rattle.oz_command.proofs.command_line_lemmas.WordsLemmas.{is_text, isnt_text, unsaid, is_said, word_there, no_option_there, no_nodes_there, no_workers_there, nodes_there, workers_there}
use Rattle.oz_command.proofs.command_line.words.with_option.Goals.{else-eq-via-then-eq+else-is_none, else-eq-via-else-eq, else-eq-2-via-then-eq-2+else-is_none-2, else-eq-2-via-else-eq-2}
use Rattle.oz_command.proofs.command_line.words.with_option.Goals as goal

abbrev bytes_of : List (String Global) → List (List ℕ)
bytes_of words = map string_bytes words

-- what is said, where one of the two isn't
without_nodes : (words : List (List ℕ)) (nodes workers : Option ℕ) → nodes ≡ None → IsRunSaying words nodes workers → IsRunSaying words None workers
without_nodes words nodes workers none said = subst (λ is. IsRunSaying words is workers) none said

without_workers : (words : List (List ℕ)) (nodes workers : Option ℕ) → workers ≡ None → IsRunSaying words nodes workers → IsRunSaying words nodes None
without_workers words nodes workers none said = subst (λ is. IsRunSaying words nodes is) none said

inside_of : (words : List (String Global)) (place : ℕ) → place + 2 ≤ length (bytes_of words) → place + 2 ≤ length words
inside_of words place inside = omega (arith, inside, length-map words string_bytes)

pub returns-in_default-clause-fault : goal.returns-in_default-clause-fault
returns-in_default-clause-fault c =
    let words = bytes_of c.args.words.now in
    let name = string_bytes c.index-words-place.result in
    let there = word_there string_bytes c.args.words.now c.args.place c.index-words-place.result c.requires.inside c.index-words-place.is in
    let named = is_text c.as_str-name.result.now name (codes "--nodes") c.eq.result c.as_str-name.ensures.value c.eq.ensures c.if-eq.true in
    let said = without_nodes (take c.args.place words) c.args.said.nodes c.args.said.workers (unsaid c.args.said.nodes c.is_none.result c.is_none.ensures c.if-is_none.true) c.requires.said in
    no_nodes_there words c.args.place name c.args.said.workers said there named (sym c.number_at.ensures ∙ c.in_default.is)

pub returns-then-is_none-clause-inside : goal.returns-then-is_none-clause-inside
returns-then-is_none-clause-inside c =
    let words = bytes_of c.args.words.now in
    let name = string_bytes c.index-words-place.result in
    let there = word_there string_bytes c.args.words.now c.args.place c.index-words-place.result c.requires.inside c.index-words-place.is in
    let named = is_text c.as_str-name.result.now name (codes "--nodes") c.eq.result c.as_str-name.ensures.value c.eq.ensures c.if-eq.true in
    let said = without_nodes (take c.args.place words) c.args.said.nodes c.args.said.workers (unsaid c.args.said.nodes c.is_none.result c.is_none.ensures c.if-is_none.true) c.requires.said in
    inside_of c.args.words.now c.args.place (nodes_there words c.args.place name c.args.said.workers c.in-Some.nodes said there named (sym c.number_at.ensures ∙ c.in-Some.is)).0

pub returns-then-is_none-clause-said : goal.returns-then-is_none-clause-said
returns-then-is_none-clause-said c =
    let words = bytes_of c.args.words.now in
    let name = string_bytes c.index-words-place.result in
    let there = word_there string_bytes c.args.words.now c.args.place c.index-words-place.result c.requires.inside c.index-words-place.is in
    let named = is_text c.as_str-name.result.now name (codes "--nodes") c.eq.result c.as_str-name.ensures.value c.eq.ensures c.if-eq.true in
    let said = without_nodes (take c.args.place words) c.args.said.nodes c.args.said.workers (unsaid c.args.said.nodes c.is_none.result c.is_none.ensures c.if-is_none.true) c.requires.said in
    (nodes_there words c.args.place name c.args.said.workers c.in-Some.nodes said there named (sym c.number_at.ensures ∙ c.in-Some.is)).1

pub returns-in_default-number_at-clause-fault : goal.returns-in_default-number_at-clause-fault
returns-in_default-number_at-clause-fault c =
    let words = bytes_of c.args.words.now in
    let name = string_bytes c.index-words-place.result in
    let there = word_there string_bytes c.args.words.now c.args.place c.index-words-place.result c.requires.inside c.index-words-place.is in
    let named = is_text c.as_str-name.result.now name (codes "--workers") c.eq-2.result c.as_str-name.ensures.value c.eq-2.ensures c.if-eq-2.true in
    let said = without_workers (take c.args.place words) c.args.said.nodes c.args.said.workers (unsaid c.args.said.workers c.is_none-then-eq-2.result c.is_none-then-eq-2.ensures c.if-is_none-2.true) c.requires.said in
    no_workers_there words c.args.place name c.args.said.nodes said there named (sym c.number_at-then-is_none-2.ensures ∙ c.in_default-number_at.is)

pub returns-then-is_none-2-clause-inside : goal.returns-then-is_none-2-clause-inside
returns-then-is_none-2-clause-inside c =
    let words = bytes_of c.args.words.now in
    let name = string_bytes c.index-words-place.result in
    let there = word_there string_bytes c.args.words.now c.args.place c.index-words-place.result c.requires.inside c.index-words-place.is in
    let named = is_text c.as_str-name.result.now name (codes "--workers") c.eq-2.result c.as_str-name.ensures.value c.eq-2.ensures c.if-eq-2.true in
    let said = without_workers (take c.args.place words) c.args.said.nodes c.args.said.workers (unsaid c.args.said.workers c.is_none-then-eq-2.result c.is_none-then-eq-2.ensures c.if-is_none-2.true) c.requires.said in
    inside_of c.args.words.now c.args.place (workers_there words c.args.place name c.args.said.nodes c.in-Some-number_at.workers said there named (sym c.number_at-then-is_none-2.ensures ∙ c.in-Some-number_at.is)).0

pub returns-then-is_none-2-clause-said : goal.returns-then-is_none-2-clause-said
returns-then-is_none-2-clause-said c =
    let words = bytes_of c.args.words.now in
    let name = string_bytes c.index-words-place.result in
    let there = word_there string_bytes c.args.words.now c.args.place c.index-words-place.result c.requires.inside c.index-words-place.is in
    let named = is_text c.as_str-name.result.now name (codes "--workers") c.eq-2.result c.as_str-name.ensures.value c.eq-2.ensures c.if-eq-2.true in
    let said = without_workers (take c.args.place words) c.args.said.nodes c.args.said.workers (unsaid c.args.said.workers c.is_none-then-eq-2.result c.is_none-then-eq-2.ensures c.if-is_none-2.true) c.requires.said in
    (workers_there words c.args.place name c.args.said.nodes c.in-Some-number_at.workers said there named (sym c.number_at-then-is_none-2.ensures ∙ c.in-Some-number_at.is)).1

pub returns-clause-fault : goal.returns-clause-fault
returns-clause-fault c =
    let name = string_bytes c.index-words-place.result in
    let there = word_there string_bytes c.args.words.now c.args.place c.index-words-place.result c.requires.inside c.index-words-place.is in
    no_option_there (bytes_of c.args.words.now) c.args.place name c.args.said.nodes c.args.said.workers c.requires.said there
    (λ named. elim c.else-eq.branch as (λ _. IsSome c.args.said.nodes) [
      | else-eq-via-then-eq+else-is_none w ↦ is_said c.args.said.nodes w.is_none.result w.is_none.ensures w.if-is_none.false
      | else-eq-via-else-eq w ↦ absurd (isnt_text c.as_str-name.result.now name (codes "--nodes") c.eq.result c.as_str-name.ensures.value c.eq.ensures w.if-eq.false named)
    ])
    (λ named. elim c.else-eq-2.branch as (λ _. IsSome c.args.said.workers) [
      | else-eq-2-via-then-eq-2+else-is_none-2 w ↦ is_said c.args.said.workers w.is_none-then-eq-2.result w.is_none-then-eq-2.ensures w.if-is_none-2.false
      | else-eq-2-via-else-eq-2 w ↦ absurd (isnt_text c.as_str-name.result.now name (codes "--workers") c.eq-2.result c.as_str-name.ensures.value c.eq-2.ensures w.if-eq-2.false named)
    ])
