use Rattle.std.proofs.Common.{◌≡◌, ◌∙◌, ℕ, List, [], ◌∷◌, map, drop, ap, sym, subst, arith, codes, None, Some, ◌+◌}
use Rattle.std.specs.String.{string_bytes}
use Rattle.oz_cluster.specs.declared.files.words.Way.{Way}
use Rattle.oz_cluster.specs.files.Words.{IsFirstFault, verb_of}
use Rattle.oz_cluster.specs.declared.files.words.WordsFault.{WordsFault}
use Rattle.oz_cluster.specs.declared.files.words.WordsFault.TheVariants.{At}
use Rattle.oz_cluster.specs.files.Reading.{IsRunFault, path_of}
use Rattle.oz_command.specs.Paths.{key_in}
use Rattle.oz_cluster.proofs.TransferWords.{fault_at_none, fault_at_verb, fault_behind_verb, fault_at_dir, fault_behind_dir, fault_at_key, fault_in_options, no_words, first_word, rest_of, no_bytes, some_bytes}
use Rattle.oz_cluster.proofs.files.words.read_transfer.Goals as goal

pub returns-in_default-clause-fault : goal.returns-in_default-clause-fault
returns-in_default-clause-fault c = subst (λ (l : List (List ℕ)). IsFirstFault l 1) (sym (no_words string_bytes c.args.words.now c.in_default.len_below)) fault_at_none

pub returns-in_default-way_of-clause-fault : goal.returns-in_default-way_of-clause-fault
returns-in_default-way_of-clause-fault c =
    let words = c.args.words.now in
    let verb = c.verb-item.result in
    subst (λ (l : List (List ℕ)). IsFirstFault l 1) (sym (first_word string_bytes words verb c.in-len1-up.len_at_least c.verb-item.is))
    (fault_at_verb (string_bytes verb) (map string_bytes (rest_of words)) (λ way is. c.in_default-way_of.ensures way (c.as_str.ensures.value ∙ is)))

pub returns-in_default-rest-clause-fault : goal.returns-in_default-rest-clause-fault
returns-in_default-rest-clause-fault c =
    let words = c.args.words.now in
    let verb = c.verb-item.result in
    subst (λ (l : List (List ℕ)). IsFirstFault l 2)
    (sym (first_word string_bytes words verb c.in-len1-up.len_at_least c.verb-item.is ∙ ap (λ (r : List (List ℕ)). string_bytes verb ∷ r) (no_words string_bytes (rest_of words) c.in_default-rest.len_below)))
    (fault_behind_verb c.in-Some.way (string_bytes verb) (sym c.as_str.ensures.value ∙ c.in-Some.ensures))

pub returns-then-is_empty-clause-fault : goal.returns-then-is_empty-clause-fault
returns-then-is_empty-clause-fault c =
    let words = c.args.words.now in
    let verb = c.verb-item.result in
    let dir = c.dir-item.result in
    let rest = rest_of words in
    subst (λ (l : List (List ℕ)). IsFirstFault l 2)
    (sym (first_word string_bytes words verb c.in-len1-up.len_at_least c.verb-item.is ∙ ap (λ (r : List (List ℕ)). string_bytes verb ∷ r) (first_word string_bytes rest dir c.in-len1-up-rest.len_at_least c.dir-item.is)))
    (fault_at_dir c.in-Some.way (string_bytes verb) (string_bytes dir) (map string_bytes (rest_of rest)) (sym c.as_str.ensures.value ∙ c.in-Some.ensures) (no_bytes dir c.is_empty.result c.is_empty.ensures c.if-is_empty.true))

pub returns-in_default-rest-2-clause-fault : goal.returns-in_default-rest-2-clause-fault
returns-in_default-rest-2-clause-fault c =
    let words = c.args.words.now in
    let verb = c.verb-item.result in
    let dir = c.dir-item.result in
    let rest = rest_of words in
    subst (λ (l : List (List ℕ)). IsFirstFault l 3)
    (sym (first_word string_bytes words verb c.in-len1-up.len_at_least c.verb-item.is
    ∙ ap (λ (r : List (List ℕ)). string_bytes verb ∷ r) (first_word string_bytes rest dir c.in-len1-up-rest.len_at_least c.dir-item.is
    ∙ ap (λ (r : List (List ℕ)). string_bytes dir ∷ r) (no_words string_bytes (rest_of rest) c.in_default-rest-2.len_below))))
    (fault_behind_dir c.in-Some.way (string_bytes verb) (string_bytes dir) (sym c.as_str.ensures.value ∙ c.in-Some.ensures) (some_bytes dir c.is_empty.result c.is_empty.ensures c.if-is_empty.false))

pub returns-in_default-path_in-clause-fault : goal.returns-in_default-path_in-clause-fault
returns-in_default-path_in-clause-fault c =
    let words = c.args.words.now in
    let verb = c.verb-item.result in
    let dir = c.dir-item.result in
    let key = c.key-item.result in
    let rest = rest_of words in
    subst (λ (l : List (List ℕ)). IsFirstFault l 3)
    (sym (first_word string_bytes words verb c.in-len1-up.len_at_least c.verb-item.is
    ∙ ap (λ (r : List (List ℕ)). string_bytes verb ∷ r) (first_word string_bytes rest dir c.in-len1-up-rest.len_at_least c.dir-item.is
    ∙ ap (λ (r : List (List ℕ)). string_bytes dir ∷ r) (first_word string_bytes (rest_of rest) key c.in-len1-up-rest-2.len_at_least c.key-item.is))))
    (fault_at_key c.in-Some.way (string_bytes verb) (string_bytes dir) (string_bytes key) (map string_bytes (rest_of (rest_of rest))) (sym c.as_str.ensures.value ∙ c.in-Some.ensures)
    (some_bytes dir c.is_empty.result c.is_empty.ensures c.if-is_empty.false) (subst (λ (b : List ℕ). key_in b ≡ None) c.as_bytes.ensures.value c.in_default-path_in.ensures))

pub returns-in-Err-At-clause-fault : goal.returns-in-Err-At-clause-fault
returns-in-Err-At-clause-fault c =
    let words = c.args.words.now in
    let verb = c.verb-item.result in
    let dir = c.dir-item.result in
    let key = c.key-item.result in
    let rest = rest_of words in
    let options = map string_bytes (rest_of (rest_of rest)) in
    let wrong : IsRunFault (codes "run" ∷ string_bytes dir ∷ options) (At c.in-Err-At.place) =
    subst (λ (d : List ℕ). IsRunFault (codes "run" ∷ d ∷ options) (At c.in-Err-At.place)) c.as_str-2.ensures.value
    (subst (λ (f : WordsFault). IsRunFault (codes "run" ∷ c.as_str-2.result.now ∷ options) f) c.in-Err-At.field-0-is c.in-Err-At.ensures.fault) in
    subst (λ (n : ℕ). IsFirstFault (map string_bytes words) (n + 1)) (sym c.in-Err-At.place-is)
    (subst (λ (l : List (List ℕ)). IsFirstFault l (c.in-Err-At.place + 1))
    (sym (first_word string_bytes words verb c.in-len1-up.len_at_least c.verb-item.is
    ∙ ap (λ (r : List (List ℕ)). string_bytes verb ∷ r) (first_word string_bytes rest dir c.in-len1-up-rest.len_at_least c.dir-item.is
    ∙ ap (λ (r : List (List ℕ)). string_bytes dir ∷ r) (first_word string_bytes (rest_of rest) key c.in-len1-up-rest-2.len_at_least c.key-item.is))))
    (fault_in_options c.in-Some.way (string_bytes verb) (string_bytes dir) (string_bytes key) (path_of c.in-Some-path_in.path) (sym c.as_str.ensures.value ∙ c.in-Some.ensures)
    (subst (λ (b : List ℕ). key_in b ≡ Some (path_of c.in-Some-path_in.path)) c.as_bytes.ensures.value c.in-Some-path_in.ensures)
    (some_bytes dir c.is_empty.result c.is_empty.ensures c.if-is_empty.false) options c.in-Err-At.place wrong))
