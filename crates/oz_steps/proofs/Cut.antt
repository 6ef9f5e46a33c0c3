-- How written blocks become the pieces of some data.
use Rattle.std.proofs.Common.{◌≡◌, ℕ, ◌+◌, ◌-◌, ◌*◌, ◌<◌, List, [], ◌∷◌, ◌++◌, length, take, drop, get_or, min, ◌∙◌, ap, arith}
use Rattle.std.proofs.lemmas.List.{length-take, length-drop, length-take-le, take_more}
use Rattle.oz_command.specs.declared.command.Command.{Command}
use Rattle.oz_command.specs.Payload.{data_length, data_of, piece}
use Rattle.oz_core.specs.Steps.{pieces_from}
use Rattle.oz_fields.specs.declared.block.Block.{Block}
use Rattle.oz_fields.specs.declared.block.Piece.{Piece}

-- how long a piece is
pub piece-length : (j : ℕ) (command : Command)
    → length (piece j command) ≡ min 65536 (data_length command - 65536 * j)
piece-length j command =
    length-take 65536 (drop (65536 * j) (data_of command))
    ∙ ap (min 65536) (length-drop (65536 * j) (data_of command))

-- one block more
last-piece : (j : ℕ) (command : Command) (blocks : List Block) (block : Block)
    → pieces_from j command (blocks ++ block ∷ [])
    ≡ pieces_from j command blocks ++ record { block = block; length = length (piece (j + length blocks) command) } ∷ []
last-piece j command [] block =
    let same : j ≡ j + 0 = omega arith in
    ap (λ (n : ℕ). record { block = block; length = length (piece n command) } ∷ []) same
last-piece j command (first ∷ blocks) block =
    let same : (j + 1) + length blocks ≡ j + length (first ∷ blocks) = omega arith in
    ap (λ (ps : List Piece). record { block = first; length = length (piece j command) } ∷ ps)
    (last-piece (j + 1) command blocks block
    ∙ ap (λ (n : ℕ). pieces_from (j + 1) command blocks ++ record { block = block; length = length (piece n command) } ∷ []) same)

pub piece-more : (command : Command) (blocks : List Block) (i : ℕ) (d : Block) → i < length blocks
    → pieces_from 0 command (take (i + 1) blocks)
    ≡ pieces_from 0 command (take i blocks) ++ record { block = get_or blocks i d; length = length (piece i command) } ∷ []
piece-more command blocks i d within =
    let so_many : 0 + length (take i blocks) ≡ i = omega (arith, length-take-le i blocks (omega (arith, within))) in
    ap (pieces_from 0 command) (take_more blocks i d within)
    ∙ (last-piece 0 command (take i blocks) (get_or blocks i d)
    ∙ ap (λ (n : ℕ). pieces_from 0 command (take i blocks) ++ record { block = get_or blocks i d; length = length (piece n command) } ∷ []) so_many)
