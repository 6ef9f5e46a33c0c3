-- Options that stand behind others.
use Rattle.std.proofs.Common.{arith, ◌≡◌, ◌≢◌, ◌⊎◌, ⊎_elim, ℕ, ◌≤◌, Bool, true, List, [], ◌∷◌, ◌++◌, Option, None, Some, IsSome, is_some, if◌then◌else◌, ◌&&◌, nat_le, refl, sym, ap, ◌∙◌, inl, inr}
use Rattle.std.specs.Prelude.{codes}
use Rattle.oz_command.specs.Numbers.{number_in, is_number, digits_value}
use Rattle.oz_nodes.specs.declared.nodes.TheConstants.{FEWEST_NODES, MOST_NODES}
use Rattle.oz_command.specs.declared.command_line.words.TheConstants.{MOST_WORKERS}
use Rattle.oz_command.specs.command_line.Words.{AreOptions}

abbrev nodes_name : List ℕ
nodes_name = codes "--nodes"

abbrev workers_name : List ℕ
workers_name = codes "--workers"

pub apart : (name : List ℕ) → name ≡ codes "--nodes" → name ≢ codes "--workers"
apart name is other = let same : codes "--nodes" ≡ codes "--workers" = sym is ∙ other in absurd cc

pub some_is_none : (x : Option ℕ) → IsSome x → x ≡ None → ⊥
some_is_none x some none = let is : is_some {T = ℕ} None ≡ true = sym (ap (is_some {T = ℕ}) none) ∙ some in absurd cc

-- One more option

pub with_nodes : (options : List (List ℕ)) (workers : Option ℕ) (number : List ℕ) (count : ℕ) → number_in FEWEST_NODES MOST_NODES number ≡ Some count → AreOptions options None workers → AreOptions (options ++ codes "--nodes" ∷ number ∷ []) (Some count) workers
with_nodes [] workers number count is said = inl (refl, (refl, sym is), said)
with_nodes (name ∷ []) workers number count is said = absurd said
with_nodes (name ∷ word ∷ rest) workers number count is said =
    ⊎_elim (λ nodes. absurd (some_is_none None nodes.1.0 refl)) (λ at. inr (at.0, at.1, with_nodes rest None number count is at.2)) said

pub with_workers : (options : List (List ℕ)) (nodes : Option ℕ) (number : List ℕ) (count : ℕ) → number_in 1 MOST_WORKERS number ≡ Some count → AreOptions options nodes None → AreOptions (options ++ codes "--workers" ∷ number ∷ []) nodes (Some count)
with_workers [] nodes number count is said = inr (refl, (refl, sym is), said)
with_workers (name ∷ []) nodes number count is said = absurd said
with_workers (name ∷ word ∷ rest) nodes number count is said =
    ⊎_elim (λ at. inl (at.0, at.1, with_workers rest None number count is at.2)) (λ workers. absurd (some_is_none None workers.1.0 refl)) said

-- What stands behind options: options too, which say nothing that those said.
pub record StandBehind (rest : List (List ℕ)) (nodes workers all_nodes all_workers : Option ℕ) : Type 0 where
  pub more_nodes : Option ℕ
  pub more_workers : Option ℕ
  pub are : AreOptions rest more_nodes more_workers
  pub no_nodes : IsSome nodes ⊎ (all_nodes ≡ None) → more_nodes ≡ None
  pub no_workers : IsSome workers ⊎ (all_workers ≡ None) → more_workers ≡ None

pub split : (options rest : List (List ℕ)) (nodes workers all_nodes all_workers : Option ℕ) → AreOptions options nodes workers → AreOptions (options ++ rest) all_nodes all_workers → StandBehind rest nodes workers all_nodes all_workers
split [] rest nodes workers all_nodes all_workers said all = record {
  more_nodes = all_nodes;
  more_workers = all_workers;
  are = all;
  no_nodes = λ why. ⊎_elim (λ some. absurd (some_is_none nodes some said.0)) (λ none. none) why;
  no_workers = λ why. ⊎_elim (λ some. absurd (some_is_none workers some said.1)) (λ none. none) why;
}
split (name ∷ []) rest nodes workers all_nodes all_workers said all = absurd said
split (name ∷ word ∷ options) rest nodes workers all_nodes all_workers said all =
    ⊎_elim
    (λ at. ⊎_elim
    (λ there. let more = split options rest None workers None all_workers at.2 there.2 in
    record { more_nodes = more.more_nodes; more_workers = more.more_workers; are = more.are; no_nodes = λ _. more.no_nodes (inr refl); no_workers = more.no_workers })
    (λ there. absurd (apart name at.0 there.0))
    all)
    (λ at. ⊎_elim
    (λ there. absurd (apart name there.0 at.0))
    (λ there. let more = split options rest nodes None all_nodes None at.2 there.2 in
    record { more_nodes = more.more_nodes; more_workers = more.more_workers; are = more.are; no_nodes = more.no_nodes; no_workers = λ _. more.no_workers (inr refl) })
    all)
    said

-- What can't stand behind options

pub no_option : (options : List (List ℕ)) (name : List ℕ) (rest : List (List ℕ)) (nodes workers all_nodes all_workers : Option ℕ) → AreOptions options nodes workers → (name ≡ codes "--nodes" → IsSome nodes) → (name ≡ codes "--workers" → IsSome workers) → ¬ AreOptions (options ++ name ∷ rest) all_nodes all_workers
no_option options name [] nodes workers all_nodes all_workers said of_nodes of_workers all =
    (split options (name ∷ []) nodes workers all_nodes all_workers said all).are
no_option options name (word ∷ rest) nodes workers all_nodes all_workers said of_nodes of_workers all =
    let more = split options (name ∷ word ∷ rest) nodes workers all_nodes all_workers said all in
    ⊎_elim
    (λ at. some_is_none more.more_nodes at.1.0 (more.no_nodes (inl (of_nodes at.0))))
    (λ at. some_is_none more.more_workers at.1.0 (more.no_workers (inl (of_workers at.0))))
    more.are

pub no_end : (options : List (List ℕ)) (name : List ℕ) (nodes workers all_nodes all_workers : Option ℕ) → AreOptions options nodes workers → ¬ AreOptions (options ++ name ∷ []) all_nodes all_workers
no_end options name nodes workers all_nodes all_workers said all =
    (split options (name ∷ []) nodes workers all_nodes all_workers said all).are

pub no_nodes : (options : List (List ℕ)) (number : List ℕ) (rest : List (List ℕ)) (nodes workers all_nodes all_workers : Option ℕ) → AreOptions options nodes workers → number_in FEWEST_NODES MOST_NODES number ≡ None → ¬ AreOptions (options ++ codes "--nodes" ∷ number ∷ rest) all_nodes all_workers
no_nodes options number rest nodes workers all_nodes all_workers said none all =
    let more = split options (codes "--nodes" ∷ number ∷ rest) nodes workers all_nodes all_workers said all in
    ⊎_elim
    (λ at. some_is_none more.more_nodes at.1.0 (at.1.1 ∙ none))
    (λ at. apart nodes_name refl at.0)
    more.are

pub no_workers : (options : List (List ℕ)) (number : List ℕ) (rest : List (List ℕ)) (nodes workers all_nodes all_workers : Option ℕ) → AreOptions options nodes workers → number_in 1 MOST_WORKERS number ≡ None → ¬ AreOptions (options ++ codes "--workers" ∷ number ∷ rest) all_nodes all_workers
no_workers options number rest nodes workers all_nodes all_workers said none all =
    let more = split options (codes "--workers" ∷ number ∷ rest) nodes workers all_nodes all_workers said all in
    ⊎_elim
    (λ at. apart workers_name at.0 refl)
    (λ at. some_is_none more.more_workers at.1.0 (at.1.1 ∙ none))
    more.are

-- Options say one thing

pub one_saying : (options : List (List ℕ)) (nodes workers others more : Option ℕ) → AreOptions options nodes workers → AreOptions options others more → (nodes ≡ others) × (workers ≡ more)
one_saying [] nodes workers others more said other = (said.0 ∙ sym other.0, said.1 ∙ sym other.1)
one_saying (name ∷ []) nodes workers others more said other = absurd said
one_saying (name ∷ word ∷ rest) nodes workers others more said other =
    ⊎_elim
    (λ at. ⊎_elim
    (λ there. (at.1.1 ∙ sym there.1.1, (one_saying rest None workers None more at.2 there.2).1))
    (λ there. absurd (apart name at.0 there.0))
    other)
    (λ at. ⊎_elim
    (λ there. absurd (apart name there.0 at.0))
    (λ there. ((one_saying rest nodes None others None at.2 there.2).0, at.1.1 ∙ sym there.1.1))
    other)
    said

-- What is said is within its limits

within_if : (good : Bool) (value least most count : ℕ) → (if good && nat_le least value && nat_le value most then Some value else None) ≡ Some count → (least ≤ count) × (count ≤ most)
within_if good value least most count is = grind arith

pub number_within : (least most : ℕ) (word : List ℕ) (count : ℕ) → number_in least most word ≡ Some count → (least ≤ count) × (count ≤ most)
unfolding number_in
number_within least most word count is = within_if (is_number word) (digits_value 0 word) least most count is

abbrev pub AreWithin : Option ℕ → Option ℕ → Type 0
AreWithin nodes workers =
    ((count : ℕ) → nodes ≡ Some count → (FEWEST_NODES ≤ count) × (count ≤ MOST_NODES)) ×
    ((count : ℕ) → workers ≡ Some count → (1 ≤ count) × (count ≤ MOST_WORKERS))

pub options_within : (options : List (List ℕ)) (nodes workers : Option ℕ) → AreOptions options nodes workers → AreWithin nodes workers
options_within [] nodes workers said = (λ count is. let no : None ≡ Some count = sym said.0 ∙ is in absurd cc, λ count is. let no : None ≡ Some count = sym said.1 ∙ is in absurd cc)
options_within (name ∷ []) nodes workers said = absurd said
options_within (name ∷ word ∷ rest) nodes workers said =
    ⊎_elim
    (λ at. (λ count is. number_within FEWEST_NODES MOST_NODES word count (sym at.1.1 ∙ is), (options_within rest None workers at.2).1))
    (λ at. ((options_within rest nodes None at.2).0, λ count is. number_within 1 MOST_WORKERS word count (sym at.1.1 ∙ is)))
    said
