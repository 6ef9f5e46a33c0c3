-- What is drawn of each key of a generated script, from a number.
use Rattle.std.specs.Prelude.{ℕ, zero, suc, ◌==◌, ◌%◌, if◌then◌else◌}
use Rattle.rand_core.specs.Pcg32Seed.{pcg32_seed}
use Rattle.rand_pcg.specs.Lcg.{Lcg}
use Rattle.rand_pcg.specs.Pcg.{pcg32, pcg32_of_seed}
use Rattle.oz_freon.specs.declared.drawing.Deed.{Deed}
use Rattle.oz_freon.specs.declared.drawing.Deed.TheVariants.{Delete, Rename, Get, Leave}

-- the generator that a number begins
abbrev pub first_words : ℕ → Lcg
first_words number = pcg32_of_seed (pcg32_seed 16 number)

-- the first word says how many bytes a key has
abbrev pub length_from : Lcg → ℕ
length_from words = (pcg32 words).0 % 200001

abbrev pub deed_of : ℕ → Deed
deed_of word = if word % 4 == 0 then Delete else if word % 4 == 1 then Rename else if word % 4 == 2 then Get else Leave

-- the second says what is done with it once it is put
abbrev pub deed_from : Lcg → Deed
deed_from words = deed_of (pcg32 (pcg32 words).1).0

-- the generator behind both words of a key
abbrev pub after_key : Lcg → Lcg
after_key words = (pcg32 (pcg32 words).1).1

-- the generator behind so many keys
unfoldable pub words_at : ℕ → ℕ → Lcg
words_at number zero = first_words number
words_at number (suc key) = after_key (words_at number key)
