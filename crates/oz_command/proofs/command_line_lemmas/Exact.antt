-- What words that are a run rule out.
use Rattle.std.proofs.Common.{◌≡◌, ⊎_elim, ℕ, List, [], ◌∷◌, Option, take, drop, sym, ap, ◌∙◌, subst}
use Rattle.std.specs.Prelude.{unwrap_or}
use Rattle.std.proofs.lemmas.List.{take-append-drop}
use Rattle.oz_command.specs.declared.command_line.words.TheConstants.{DEFAULT_NODES, DEFAULT_WORKERS}
use Rattle.oz_command.specs.command_line.Words.{IsRunSaying, IsRunWith, IsRun, BeginsRun, IsFirstFault}
use Rattle.oz_command.proofs.command_line_lemmas.OptionsLemmas.{one_saying}

pub run_has_no_fault : (words : List (List ℕ)) (place : ℕ) → IsRun words → IsFirstFault words place → ⊥
run_has_no_fault words place run fault =
    let begins : BeginsRun (take place words) = (drop place words, subst IsRun (sym (take-append-drop place words)) run) in
    ⊎_elim (λ there. there.1 begins) (λ behind. behind.1 run) fault.fault

one_said : (words : List (List ℕ)) (nodes workers others more : Option ℕ) → IsRunSaying words nodes workers → IsRunSaying words others more → (nodes ≡ others) × (workers ≡ more)
one_said [] nodes workers others more said other = absurd said
one_said (verb ∷ []) nodes workers others more said other = absurd said
one_said (verb ∷ dir ∷ options) nodes workers others more said other = one_saying options nodes workers others more said.2 other.2

pub one_run : (words : List (List ℕ)) (nodes workers others more : ℕ) → IsRunWith words nodes workers → IsRunWith words others more → (nodes ≡ others) × (workers ≡ more)
one_run words nodes workers others more run other =
    let same = one_said words run.said_nodes run.said_workers other.said_nodes other.said_workers run.said other.said in (
      run.nodes_are ∙ ap (λ said. unwrap_or said DEFAULT_NODES) same.0 ∙ sym other.nodes_are,
      run.workers_are ∙ ap (λ said. unwrap_or said DEFAULT_WORKERS) same.1 ∙ sym other.workers_are,
    )
