-- What the fates of its blocks say of a line.
use Rattle.std.proofs.Common.{◌≡◌, ◌∷◌, [], List, ℕ, Bool, true, false, not, ◌&&◌, ◌||◌, map, filter, refl, sym, ◌∙◌, ap, Some, None, Option, is_some}
use mathlib.Core.Bool.{false≢true}
use Rattle.std.specs.List.{list_all}
use Rattle.oz_core.specs.declared.event.Event.{Event}
use Rattle.oz_core.specs.declared.opening.Opening.{Opening}
use Rattle.oz_core.specs.Steps.{GrantedBlock, is_written, is_abandoned, is_settled, is_off, excluded, granted_to}
use Rattle.oz_steps.specs.declared.came.Attempt.{Attempt}
use Rattle.oz_steps.specs.declared.fate.Fate.{Fate}
use Rattle.oz_steps.specs.declared.fate.Fate.TheVariants as fates
use Rattle.oz_steps.specs.declared.came.Granted.{Granted}
use Rattle.oz_steps.specs.Grants.{IsFate, AreGrants, is_of_container, is_of_pipeline}
use Rattle.oz_steps.specs.Grants.{excluded_by, is_fate_of_container, is_fate_of_pipeline}
use Rattle.oz_steps.specs.laws.Chosen.{taken-one, left-one}

and-no : (a b : Bool) → b ≡ true → (a && not b) ≡ false
and-no true b so = rw so refl
and-no false b so = refl

or-yes : (a b : Bool) → b ≡ true → (a || b) ≡ true
or-yes true b so = refl
or-yes false b so = so

not-abandoned : (o : Opening) (s : List Event) (g : GrantedBlock) → is_written s g ≡ true → is_abandoned o s g ≡ false
not-abandoned o s g so = and-no _ (is_written s g) so

or-first : (a b : Bool) → a ≡ true → (a || b) ≡ true
or-first a b so = rw so refl

settled-one : (o : Opening) (s : List Event) (g : GrantedBlock) (f : Fate) → IsFate o s g f → is_settled o s g ≡ true
settled-one o s g fates.Written h = or-first (is_written s g) (is_abandoned o s g) h
settled-one o s g fates.ContainerRefused h = or-yes (is_written s g) (is_abandoned o s g) h.0
settled-one o s g fates.PipelineRefused h = or-yes (is_written s g) (is_abandoned o s g) h.0

all-one : {X : Type 0} (p : X → Bool) (x : X) (xs : List X) → p x ≡ true → list_all p (x ∷ xs) ≡ list_all p xs
all-one p x xs so = rw so refl

all-none : {X : Type 0} (p : X → Bool) (x : X) (xs : List X) → p x ≡ false → list_all p (x ∷ xs) ≡ false
all-none p x xs not_so = rw not_so refl

-- each block is settled where nothing is being written, and not all are where something is
pub all-settled : (o : Opening) (s : List Event) (attempts : List Attempt) (grants : List GrantedBlock)
    → AreGrants o s attempts None grants → list_all (is_settled o s) grants ≡ true
all-settled o s [] grants h = ap (list_all (is_settled o s)) h
all-settled o s (attempt ∷ attempts) grants (g, others, is, at, more) =
    ap (list_all (is_settled o s)) is
    ∙ (all-one (is_settled o s) g others (settled-one o s g attempt.fate at.fate) ∙ all-settled o s attempts others more)

pub one-unsettled : (o : Opening) (s : List Event) (attempts : List Attempt) (w : Granted) (grants : List GrantedBlock)
    → AreGrants o s attempts (Some w) grants → list_all (is_settled o s) grants ≡ false
one-unsettled o s [] w grants (g, is, not_yet) =
    ap (list_all (is_settled o s)) is ∙ all-none (is_settled o s) g [] not_yet.unsettled
one-unsettled o s (attempt ∷ attempts) w grants (g, others, is, at, more) =
    ap (list_all (is_settled o s)) is
    ∙ (all-one (is_settled o s) g others (settled-one o s g attempt.fate at.fate) ∙ one-unsettled o s attempts w others more)

-- ---- what is excluded

abbrev given_up : Opening → List Event → List GrantedBlock → List GrantedBlock
given_up o s grants = filter (is_abandoned o s) grants

abbrev of_containers : Opening → List Event → List GrantedBlock → List ℕ
of_containers o s grants =
    map (λ (grant : GrantedBlock). grant.block.container) (filter (λ grant. not (is_off o s grant)) (given_up o s grants))

abbrev of_pipelines : Opening → List Event → List GrantedBlock → List ℕ
of_pipelines o s grants = map (λ (grant : GrantedBlock). grant.pipeline) (filter (is_off o s) (given_up o s grants))

abbrev containers : List Attempt → List ℕ
containers attempts = map (λ (attempt : Attempt). attempt.granted.block.container) (filter is_of_container attempts)

abbrev pipelines : List Attempt → List ℕ
pipelines attempts = map (λ (attempt : Attempt). attempt.granted.pipeline) (filter is_of_pipeline attempts)

-- one more attempt, by its fate
container-step : (o : Opening) (s : List Event) (g : GrantedBlock) (others : List GrantedBlock) (a : Attempt)
    (attempts : List Attempt) (f : Fate) → a.fate ≡ f → IsFate o s g f → g.block ≡ a.granted.block
    → of_containers o s others ≡ containers attempts
    → of_containers o s (g ∷ others) ≡ containers (a ∷ attempts)
container-step o s g others a attempts fates.Written e h block same =
    ap (λ gs. map (λ (grant : GrantedBlock). grant.block.container) (filter (λ grant. not (is_off o s grant)) gs))
    (left-one (is_abandoned o s) g others (not-abandoned o s g h))
    ∙ (same ∙ sym (ap (map (λ (attempt : Attempt). attempt.granted.block.container))
    (left-one is_of_container a attempts (ap is_fate_of_container e))))
container-step o s g others a attempts fates.ContainerRefused e h block same =
    ap (λ gs. map (λ (grant : GrantedBlock). grant.block.container) (filter (λ grant. not (is_off o s grant)) gs))
    (taken-one (is_abandoned o s) g others h.0)
    ∙ (ap (map (λ (grant : GrantedBlock). grant.block.container))
    (taken-one (λ grant. not (is_off o s grant)) g (given_up o s others) (ap not h.1))
    ∙ (ap (λ n. n.container ∷ of_containers o s others) block
    ∙ (ap (λ ns. a.granted.block.container ∷ ns) same
    ∙ sym (ap (map (λ (attempt : Attempt). attempt.granted.block.container))
    (taken-one is_of_container a attempts (ap is_fate_of_container e))))))
container-step o s g others a attempts fates.PipelineRefused e h block same =
    ap (λ gs. map (λ (grant : GrantedBlock). grant.block.container) (filter (λ grant. not (is_off o s grant)) gs))
    (taken-one (is_abandoned o s) g others h.0)
    ∙ (ap (map (λ (grant : GrantedBlock). grant.block.container))
    (left-one (λ grant. not (is_off o s grant)) g (given_up o s others) (ap not h.1))
    ∙ (same ∙ sym (ap (map (λ (attempt : Attempt). attempt.granted.block.container))
    (left-one is_of_container a attempts (ap is_fate_of_container e)))))

pub same-containers : (o : Opening) (s : List Event) (attempts : List Attempt) (grants : List GrantedBlock)
    → AreGrants o s attempts None grants → of_containers o s grants ≡ containers attempts
same-containers o s [] grants h = ap (of_containers o s) h
same-containers o s (attempt ∷ attempts) grants (g, others, is, at, more) =
    ap (of_containers o s) is
    ∙ container-step o s g others attempt attempts attempt.fate refl at.fate at.block (same-containers o s attempts others more)

pipeline-step : (o : Opening) (s : List Event) (g : GrantedBlock) (others : List GrantedBlock) (a : Attempt)
    (attempts : List Attempt) (f : Fate) → a.fate ≡ f → IsFate o s g f → g.pipeline ≡ a.granted.pipeline
    → of_pipelines o s others ≡ pipelines attempts
    → of_pipelines o s (g ∷ others) ≡ pipelines (a ∷ attempts)
pipeline-step o s g others a attempts fates.Written e h pipeline same =
    ap (λ gs. map (λ (grant : GrantedBlock). grant.pipeline) (filter (is_off o s) gs))
    (left-one (is_abandoned o s) g others (not-abandoned o s g h))
    ∙ (same ∙ sym (ap (map (λ (attempt : Attempt). attempt.granted.pipeline))
    (left-one is_of_pipeline a attempts (ap is_fate_of_pipeline e))))
pipeline-step o s g others a attempts fates.ContainerRefused e h pipeline same =
    ap (λ gs. map (λ (grant : GrantedBlock). grant.pipeline) (filter (is_off o s) gs))
    (taken-one (is_abandoned o s) g others h.0)
    ∙ (ap (map (λ (grant : GrantedBlock). grant.pipeline)) (left-one (is_off o s) g (given_up o s others) h.1)
    ∙ (same ∙ sym (ap (map (λ (attempt : Attempt). attempt.granted.pipeline))
    (left-one is_of_pipeline a attempts (ap is_fate_of_pipeline e)))))
pipeline-step o s g others a attempts fates.PipelineRefused e h pipeline same =
    ap (λ gs. map (λ (grant : GrantedBlock). grant.pipeline) (filter (is_off o s) gs))
    (taken-one (is_abandoned o s) g others h.0)
    ∙ (ap (map (λ (grant : GrantedBlock). grant.pipeline)) (taken-one (is_off o s) g (given_up o s others) h.1)
    ∙ (ap (λ n. n ∷ of_pipelines o s others) pipeline
    ∙ (ap (λ ns. a.granted.pipeline ∷ ns) same
    ∙ sym (ap (map (λ (attempt : Attempt). attempt.granted.pipeline))
    (taken-one is_of_pipeline a attempts (ap is_fate_of_pipeline e))))))

pub same-pipelines : (o : Opening) (s : List Event) (attempts : List Attempt) (grants : List GrantedBlock)
    → AreGrants o s attempts None grants → of_pipelines o s grants ≡ pipelines attempts
same-pipelines o s [] grants h = ap (of_pipelines o s) h
same-pipelines o s (attempt ∷ attempts) grants (g, others, is, at, more) =
    ap (of_pipelines o s) is
    ∙ pipeline-step o s g others attempt attempts attempt.fate refl at.fate at.pipeline (same-pipelines o s attempts others more)

pub same-excluded : (o : Opening) (s : List Event) (attempts : List Attempt) (client number : ℕ)
    → AreGrants o s attempts None (granted_to client number s) → excluded o s client number ≡ excluded_by attempts
same-excluded o s attempts client number h =
    rw (same-containers o s attempts (granted_to client number s) h, same-pipelines o s attempts (granted_to client number s) h) refl

pub unsettled-if : (o : Opening) (s : List Event) (attempts : List Attempt) (writing : Option Granted) (grants : List GrantedBlock)
    → is_some writing ≡ true → AreGrants o s attempts writing grants → list_all (is_settled o s) grants ≡ false
unsettled-if o s attempts None grants some h = absurd (false≢true some)
unsettled-if o s attempts (Some w) grants some h = one-unsettled o s attempts w grants h
