-- Sums over blocks, each counted once.
use Rattle.std.proofs.Common.{◌≡◌, ◌≢◌, ℕ, zero, suc, ◌+◌, Bool, true, false, not, ◌&&◌, ◌||◌, cond, List, [], ◌∷◌, map, get_or, refl, sym, ◌∙◌, ap, zero-add, arith}
use Rattle.std.proofs.lemmas.List.Folds.{list_any_none}
use Rattle.std.proofs.lemmas.List.Kept.{AllPairs-cons}
use Rattle.std.proofs.lemmas.List.Sums.{sum-map, sum_by-cons}
use Rattle.std.specs.List.{list_any, sum, AllPairs, All}
use Rattle.oz_fields.specs.declared.block.Block.{Block}
use Rattle.oz_core.specs.Nodes.{is_block}
use Rattle.oz_node_law.specs.Words.{sum_once}
use Rattle.oz_node_law.proofs.Found.{false-true, same_block, block_itself}

-- the sum of a count of each
abbrev pub total : (Block → ℕ) → List Block → ℕ
total f [] = 0
total f (block ∷ blocks) = f block + total f blocks

pub total-sum : (f : Block → ℕ) (blocks : List Block) → sum (map f blocks) ≡ total f blocks
total-sum f [] = refl
total-sum f (block ∷ blocks) = sum-map f (block ∷ blocks) ∙ (sum_by-cons f block blocks ∙ ap (λ (n : ℕ). f block + n) (sym (sum-map f blocks) ∙ total-sum f blocks))

abbrev pub has : Block → List Block → Bool
has block blocks = list_any (is_block block) blocks

and-false : (a : Bool) → (a && false) ≡ false
and-false true = refl
and-false false = refl

and-true : (a : Bool) → (a && true) ≡ a
and-true true = refl
and-true false = refl

-- a test of two blocks, in either order
turned-go : (a b : Block) (s t : Bool) → is_block a b ≡ s → is_block b a ≡ t → s ≡ t
turned-go a b true t e f = sym (block_itself a) ∙ (ap (λ (x : Block). is_block x a) (same_block a b e) ∙ f)
turned-go a b false true e f = false-true (sym e ∙ (ap (λ (x : Block). is_block a x) (same_block b a f) ∙ block_itself a))
turned-go a b false false e f = refl

-- ---- a list without one of its blocks

unfoldable without : Block → List Block → List Block
without block [] = []
without block (other ∷ others) = cond (is_block block other) (without block others) (other ∷ without block others)

absent-go : (block other : Block) (others : List Block) (b : Bool) → is_block block other ≡ b → has block (other ∷ others) ≡ false → (b ≡ false) × (has block others ≡ false)
absent-go block other others true e h = false-true (sym h ∙ ap (λ (b : Bool). b || has block others) e)
absent-go block other others false e h = (refl, sym (ap (λ (b : Bool). b || has block others) e) ∙ h)

without-absent : (block : Block) (blocks : List Block) → has block blocks ≡ false → without block blocks ≡ blocks
unfolding without
without-absent block [] h = refl
without-absent block (other ∷ others) h =
    let two : (is_block block other ≡ false) × (has block others ≡ false) = absent-go block other others (is_block block other) refl h in
    ap (λ (b : Bool). cond b (without block others) (other ∷ without block others)) two.0 ∙ ap (λ (bs : List Block). other ∷ bs) (without-absent block others two.1)

-- ---- apart

unlike-go : (a b : Block) → a ≢ b → (t : Bool) → is_block a b ≡ t → t ≡ false
unlike-go a b apart true e = absurd (apart (same_block a b e))
unlike-go a b apart false e = refl

pub head-apart : (block : Block) (blocks : List Block) → AllPairs ◌≢◌ (block ∷ blocks) → has block blocks ≡ false
head-apart block blocks apart =
    list_any_none (is_block block) blocks (λ k d within. unlike-go block (get_or blocks k d) (apart zero (suc k) d (omega arith) (omega arith)) (is_block block (get_or blocks k d)) refl)

pub tail-apart : (block : Block) (blocks : List Block) → AllPairs ◌≢◌ (block ∷ blocks) → AllPairs ◌≢◌ blocks
tail-apart block blocks apart i j d less within = apart (suc i) (suc j) d (omega arith) (omega arith)

has-none : (block : Block) (blocks : List Block) → has block blocks ≡ false → All (λ other. block ≢ other) blocks
has-none block [] h k d within = absurd (omega arith)
has-none block (other ∷ others) h zero d within = λ is.
    false-true (sym (absent-go block other others (is_block block other) refl h).0 ∙ (ap (is_block block) (sym is) ∙ block_itself block))
has-none block (other ∷ others) h (suc k) d within = has-none block others (absent-go block other others (is_block block other) refl h).1 k d (omega arith)

-- ---- lists of the same blocks have the same sum

abbrev pub Apart : List Block → Type 0
Apart blocks = AllPairs ◌≢◌ blocks

add_swap : (a b c d : ℕ) → a + c ≡ d → a + (b + c) ≡ b + d
add_swap a b c d e = omega arith

without-sum-go : (f : Block → ℕ) (block other : Block) (others : List Block) (b : Bool) → is_block block other ≡ b → has block (other ∷ others) ≡ true → has other others ≡ false → (has block others ≡ true → f block + total f (without block others) ≡ total f others) → f block + total f (cond b (without block others) (other ∷ without block others)) ≡ f other + total f others
without-sum-go f block other others true e h fresh more =
    let same : block ≡ other = same_block block other e in
    let gone : without block others ≡ others = without-absent block others (ap (λ (x : Block). has x others) same ∙ fresh) in
    ap (λ (bs : List Block). f block + total f bs) gone ∙ ap (λ (x : Block). f x + total f others) same
without-sum-go f block other others false e h fresh more =
    let rest : has block others ≡ true = sym (ap (λ (b : Bool). b || has block others) e) ∙ h in
    add_swap (f block) (f other) (total f (without block others)) (total f others) (more rest)

without-sum : (f : Block → ℕ) (block : Block) (blocks : List Block) → Apart blocks → has block blocks ≡ true → f block + total f (without block blocks) ≡ total f blocks
unfolding without
without-sum f block [] apart h = false-true h
without-sum f block (other ∷ others) apart h =
    without-sum-go f block other others (is_block block other) refl h (head-apart other others apart)
    (λ rest. without-sum f block others (tail-apart other others apart) rest)

without-has-go : (other block first : Block) (blocks : List Block) (b t : Bool) → is_block block first ≡ b → is_block other first ≡ t → (has other (without block blocks) ≡ (has other blocks && not (is_block block other))) → has other (cond b (without block blocks) (first ∷ without block blocks)) ≡ ((t || has other blocks) && not (is_block block other))
without-has-go other block first blocks true true e f more =
    let same : other ≡ first = same_block other first f in
    let one : is_block block other ≡ true = ap (is_block block) same ∙ e in
    more ∙ (ap (λ (c : Bool). has other blocks && not c) one ∙ (and-false (has other blocks) ∙ ap not (sym one)))
without-has-go other block first blocks true false e f more = more
without-has-go other block first blocks false true e f more =
    let same : other ≡ first = same_block other first f in
    let not-one : is_block block other ≡ false = ap (is_block block) same ∙ e in
    ap (λ (c : Bool). c || has other (without block blocks)) f ∙ ap not (sym not-one)
without-has-go other block first blocks false false e f more = ap (λ (c : Bool). c || has other (without block blocks)) f ∙ more

without-has : (other block : Block) (blocks : List Block) → has other (without block blocks) ≡ (has other blocks && not (is_block block other))
unfolding without
without-has other block [] = refl
without-has other block (first ∷ blocks) =
    without-has-go other block first blocks (is_block block first) (is_block other first) refl refl (without-has other block blocks)

without-apart-go : (block first : Block) (blocks : List Block) (b : Bool) → has first blocks ≡ false → Apart (without block blocks) → Apart (cond b (without block blocks) (first ∷ without block blocks))
without-apart-go block first blocks true fresh apart = apart
without-apart-go block first blocks false fresh apart =
    AllPairs-cons ◌≢◌ first (without block blocks) (has-none first (without block blocks) (without-has first block blocks ∙ ap (λ (c : Bool). c && not (is_block block first)) fresh)) apart

without-apart : (block : Block) (blocks : List Block) → Apart blocks → Apart (without block blocks)
unfolding without
without-apart block [] apart = apart
without-apart block (first ∷ blocks) apart =
    without-apart-go block first blocks (is_block block first) (head-apart first blocks apart) (without-apart block blocks (tail-apart first blocks apart))

none-left : (blocks : List Block) → ((block : Block) → has block blocks ≡ false) → blocks ≡ []
none-left [] none = refl
none-left (block ∷ blocks) none = false-true (sym (none block) ∙ ap (λ (b : Bool). b || has block blocks) (block_itself block))

rest-go : (block first : Block) (xs : List Block) (b : Bool) → is_block first block ≡ b → has first xs ≡ false → has block xs ≡ ((is_block block first || has block xs) && not b)
rest-go block first xs true e fresh =
    ap (λ (x : Block). has x xs) (sym (same_block first block e)) ∙ (fresh ∙ sym (and-false (is_block block first || has block xs)))
rest-go block first xs false e fresh =
    let other : is_block block first ≡ false = sym (turned-go first block (is_block first block) (is_block block first) refl refl) ∙ e in
    sym (and-true (is_block block first || has block xs) ∙ ap (λ (c : Bool). c || has block xs) other)

pub same_sum : (f : Block → ℕ) (xs ys : List Block) → Apart xs → Apart ys → ((block : Block) → has block xs ≡ has block ys) → total f xs ≡ total f ys
same_sum f [] ys apart_x apart_y same = ap (total f) (sym (none-left ys (λ block. sym (same block))))
same_sum f (x ∷ xs) ys apart_x apart_y same =
    let there : has x ys ≡ true = sym (same x) ∙ ap (λ (b : Bool). b || has x xs) (block_itself x) in
    let fewer : (block : Block) → has block xs ≡ has block (without x ys) =
    λ block. rest-go block x xs (is_block x block) refl (head-apart x xs apart_x) ∙ (ap (λ (b : Bool). b && not (is_block x block)) (same block) ∙ sym (without-has block x ys)) in
    ap (λ (n : ℕ). f x + n) (same_sum f xs (without x ys) (tail-apart x xs apart_x) (without-apart x ys apart_y) fewer) ∙ without-sum f x ys apart_y there

-- ---- those that are so, each once

unfoldable pub once : (Block → Bool) → List Block → List Block
once so [] = []
once so (block ∷ blocks) = cond (has block blocks) (once so blocks) (cond (so block) (block ∷ once so blocks) (once so blocks))

once-has-go : (so : Block → Bool) (other block : Block) (blocks : List Block) (c s t : Bool) → has block blocks ≡ c → so block ≡ s → is_block other block ≡ t → has other (once so blocks) ≡ (has other blocks && so other) → has other (cond c (once so blocks) (cond s (block ∷ once so blocks) (once so blocks))) ≡ ((t || has other blocks) && so other)
once-has-go so other block blocks true s true e g f more =
    more ∙ ap (λ (b : Bool). b && so other) (ap (λ (x : Block). has x blocks) (same_block other block f) ∙ e)
once-has-go so other block blocks true s false e g f more = more
once-has-go so other block blocks false true true e g f more =
    ap (λ (b : Bool). b || has other (once so blocks)) f ∙ sym (ap so (same_block other block f) ∙ g)
once-has-go so other block blocks false true false e g f more = ap (λ (b : Bool). b || has other (once so blocks)) f ∙ more
once-has-go so other block blocks false false true e g f more =
    let no : so other ≡ false = ap so (same_block other block f) ∙ g in
    more ∙ (ap (λ (b : Bool). has other blocks && b) no ∙ (and-false (has other blocks) ∙ sym no))
once-has-go so other block blocks false false false e g f more = more

pub once-has : (so : Block → Bool) (other : Block) (blocks : List Block) → has other (once so blocks) ≡ (has other blocks && so other)
unfolding once
once-has so other [] = refl
once-has so other (block ∷ blocks) =
    once-has-go so other block blocks (has block blocks) (so block) (is_block other block) refl refl refl (once-has so other blocks)

once-apart-go : (so : Block → Bool) (block : Block) (blocks : List Block) (c s : Bool) → has block blocks ≡ c → Apart (once so blocks) → Apart (cond c (once so blocks) (cond s (block ∷ once so blocks) (once so blocks)))
once-apart-go so block blocks true s e apart = apart
once-apart-go so block blocks false true e apart =
    AllPairs-cons ◌≢◌ block (once so blocks) (has-none block (once so blocks) (once-has so block blocks ∙ ap (λ (b : Bool). b && so block) e)) apart
once-apart-go so block blocks false false e apart = apart

pub once-apart : (so : Block → Bool) (blocks : List Block) → Apart (once so blocks)
unfolding once
once-apart so [] = λ i j d less within. absurd (omega arith)
once-apart so (block ∷ blocks) = once-apart-go so block blocks (has block blocks) (so block) refl (once-apart so blocks)

once-sum-go : (so : Block → Bool) (f : Block → ℕ) (block : Block) (blocks : List Block) (c s : Bool) → sum_once (λ b. cond (so b) (f b) 0) blocks ≡ total f (once so blocks) → cond c 0 (cond s (f block) 0) + sum_once (λ b. cond (so b) (f b) 0) blocks ≡ total f (cond c (once so blocks) (cond s (block ∷ once so blocks) (once so blocks)))
once-sum-go so f block blocks true s more = zero-add _ ∙ more
once-sum-go so f block blocks false true more = ap (λ (n : ℕ). f block + n) more
once-sum-go so f block blocks false false more = zero-add _ ∙ more

pub once-sum : (so : Block → Bool) (f : Block → ℕ) (blocks : List Block) → sum_once (λ b. cond (so b) (f b) 0) blocks ≡ total f (once so blocks)
unfolding once
once-sum so f [] = refl
once-sum so f (block ∷ blocks) = once-sum-go so f block blocks (has block blocks) (so block) (once-sum so f blocks)
