use Rattle.std.proofs.Common.{arith, map}
use Rattle.std.specs.Prelude.{codes}
use Rattle.std.specs.String.{string_bytes}
use Rattle.oz_command.proofs.command_line_lemmas.WordsLemmas.{same_text, other_text, no_bytes, some_bytes, fault_1, fault_at_verb, fault_2, fault_at_dir, front_said, run_within, front_0, front_1, front_2}
use Rattle.oz_command.proofs.command_line.words.read_words.Goals as goal

pub returns-in-empty-clause-fault : goal.returns-in-empty-clause-fault
returns-in-empty-clause-fault c = fault_1 _ (front_0 string_bytes c.args.words.now c.in-empty.len_below)

pub returns-in-len1-up-clause-fault : goal.returns-in-len1-up-clause-fault
returns-in-len1-up-clause-fault c =
    let front = front_1 string_bytes c.args.words.now c.verb-item.result c.in-len1-up.len_at_least c.verb-item.is in
    let other = other_text c.as_str.result.now (string_bytes c.verb-item.result) (codes "run") c.ne.result c.as_str.ensures.value c.ne.ensures c.if-ne.true in
    rw front.1 (fault_at_verb (string_bytes c.verb-item.result) front.0 other)

pub returns-in-len1-clause-fault : goal.returns-in-len1-clause-fault
returns-in-len1-clause-fault c =
    let front = front_1 string_bytes c.args.words.now c.verb-item.result c.in-len1.len_at_least c.verb-item.is in
    let is = same_text c.as_str.result.now (string_bytes c.verb-item.result) (codes "run") c.ne.result c.as_str.ensures.value c.ne.ensures c.if-ne.false in
    rw front.1 (fault_2 (string_bytes c.verb-item.result) front.0 is (omega (arith, front.2, c.in-len1.len_below)))

pub returns-in-len2-up-clause-fault : goal.returns-in-len2-up-clause-fault
returns-in-len2-up-clause-fault c =
    let front = front_2 string_bytes c.args.words.now c.verb-item.result c.dir-item.result c.in-len2-up.len_at_least c.verb-item.is c.dir-item.is in
    let is = same_text c.as_str.result.now (string_bytes c.verb-item.result) (codes "run") c.ne.result c.as_str.ensures.value c.ne.ensures c.if-ne.false in
    let none = no_bytes c.dir-item.result c.is_empty.result c.is_empty.ensures c.if-is_empty.true in
    rw front.1 (fault_at_dir (string_bytes c.verb-item.result) (string_bytes c.dir-item.result) front.0 is none)

pub read_options-requires : goal.read_options-requires
read_options-requires c =
    let front = front_2 string_bytes c.args.words.now c.verb-item.result c.dir-item.result c.in-len2-up.len_at_least c.verb-item.is c.dir-item.is in
    let is = same_text c.as_str.result.now (string_bytes c.verb-item.result) (codes "run") c.ne.result c.as_str.ensures.value c.ne.ensures c.if-ne.false in
    let some = some_bytes c.dir-item.result c.is_empty.result c.is_empty.ensures c.if-is_empty.false in
    rw front.1 (front_said (string_bytes c.verb-item.result) (string_bytes c.dir-item.result) is some)

pub returns-in_ok-said-in-len2-up-2-clause-within : goal.returns-in_ok-said-in-len2-up-2-clause-within
returns-in_ok-said-in-len2-up-2-clause-within c =
    let read = c.in_ok-said-in-len2-up-2 in
    run_within (map string_bytes c.args.words.now) read.said.nodes read.said.workers c.unwrap_or.result c.unwrap_or-in-len2-up-2.result read.ensures.said c.unwrap_or.ensures c.unwrap_or-in-len2-up-2.ensures
