-- What is written, drawn and counted with one key more.
use Rattle.std.proofs.Common.{◌≡◌, ℕ, suc, ◌+◌, List, ◌++◌, ◌∙◌, ap, append_assoc, arith}
use Rattle.rand_pcg.specs.Lcg.{Lcg}
use Rattle.oz_freon.specs.declared.drawing.Deed.{Deed}
use Rattle.oz_freon.specs.Drawing.{after_key, deed_from, length_from, words_at}
use Rattle.oz_freon.specs.Script.{key_lines, key_text, lines_here, lines_of, texts_below}

next : (n : ℕ) → suc n ≡ n + 1
next n = omega arith

pub text_grows : (text : ℕ → List ℕ) (out : List ℕ) (n : ℕ) → (out ++ texts_below text n) ++ text n ≡ out ++ texts_below text (n + 1)
unfolding texts_below
text_grows text out n =
    append_assoc out (texts_below text n) (text n) ∙ ap (λ (m : ℕ). out ++ texts_below text m) (next n)

pub words_go_on : (number key : ℕ) (words later : Lcg) → words ≡ words_at number key → later ≡ after_key words
    → later ≡ words_at number (key + 1)
unfolding words_at
words_go_on number key words later are follow =
    follow ∙ (ap (λ (g : Lcg). after_key g) are ∙ ap (λ (k : ℕ). words_at number k) (next key))

pub key_is : (number key : ℕ) (words : Lcg) (length : ℕ) (deed : Deed) → words ≡ words_at number key → length ≡ length_from words
    → deed ≡ deed_from words → key_text key length deed ≡ key_lines number key
key_is number key words length deed are long done =
    ap (λ (n : ℕ). key_text key n deed) (long ∙ ap (λ (g : Lcg). length_from g) are)
    ∙ ap (λ (it : Deed). key_text key (length_from (words_at number key)) it) (done ∙ ap (λ (g : Lcg). deed_from g) are)

pub lines_grow : (number client key lines added : ℕ) (words : Lcg) (deed : Deed) → words ≡ words_at number key
    → deed ≡ deed_from words → lines ≡ lines_of number client key → added ≡ lines_here client key deed
    → lines + added ≡ lines_of number client (key + 1)
unfolding lines_of
lines_grow number client key lines added words deed are done count more =
    ap (λ (n : ℕ). n + added) count
    ∙ (ap (λ (n : ℕ). lines_of number client key + n) (more ∙ ap (λ (it : Deed). lines_here client key it) (done ∙ ap (λ (g : Lcg). deed_from g) are))
    ∙ ap (λ (k : ℕ). lines_of number client k) (next key))
