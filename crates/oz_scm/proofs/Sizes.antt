-- How long entries are, and that a journal takes each.
use Rattle.std.proofs.Common.{◌≡◌, ℕ, ◌+◌, ◌*◌, ◌≤◌, List, [], ◌∷◌, ◌++◌, length, refl, ◌∙◌, ap, arith}
use Rattle.std.specs.List.{flat_map}
use Rattle.oz_fields.specs.Number.{u8_bytes, u16_bytes, u32_bytes, u64_bytes}
use Rattle.oz_scm.specs.declared.grants.entry.Entry.{Entry}
use Rattle.oz_scm.specs.declared.grants.entry.Entry.TheVariants.{Nodes, Granted, Stepped, Logged, Acked, Retired}
use Rattle.oz_scm.specs.grants.Entries.{entry_bytes}
use Rattle.oz_journal.specs.Journal.{body_of}
use Rattle.oz_scm.specs.Frames.{IsFrameOf}

-- a transaction has at most so many ids
abbrev pub IsShort : Entry → Type 0
IsShort (Nodes count) = Unit {0}
IsShort (Granted stripe grant) = Unit {0}
IsShort (Stepped container event) = Unit {0}
IsShort (Logged txn) = length txn.locals ≤ 1024
IsShort (Acked number dn) = Unit {0}
IsShort (Retired number) = Unit {0}

together : (front back : List ℕ) → length (front ++ back) ≡ length front + length back
together [] back = omega arith
together (x ∷ front) back = let rest = together front back in omega (arith, rest)

ids_long : (locals : List ℕ) → length (flat_map u64_bytes locals) ≡ 8 * length locals
unfolding u64_bytes
ids_long [] = refl
ids_long (local ∷ locals) =
    let parts = together (u64_bytes local) (flat_map u64_bytes locals) in
    let eight : length (u64_bytes local) ≡ 8 = refl in
    let rest = ids_long locals in
    let all : length (flat_map u64_bytes (local ∷ locals)) ≡ length (u64_bytes local ++ flat_map u64_bytes locals) = refl in
    omega (arith, parts, eight, rest, all)

short : (entry : Entry) → IsShort entry → length (entry_bytes entry) ≤ 8211
unfolding u16_bytes u32_bytes u64_bytes
short (Nodes count) is = omega arith
short (Granted stripe grant) is =
    let all : length (entry_bytes (Granted stripe grant)) ≡ 23 = refl in
    omega (arith, all)
short (Stepped container event) is =
    let all : length (entry_bytes (Stepped container event)) ≡ 10 = refl in
    omega (arith, all)
short (Logged txn) is =
    let head : List ℕ = u8_bytes 4 ++ (u64_bytes txn.number ++ (u64_bytes txn.container ++ u16_bytes (length txn.locals))) in
    let all : length (entry_bytes (Logged txn)) ≡ length (head ++ flat_map u64_bytes txn.locals) = refl in
    let size : length head ≡ 19 = refl in
    let parts = together head (flat_map u64_bytes txn.locals) in
    let ids = ids_long txn.locals in
    omega (arith, all, size, parts, ids, is)
short (Acked number dn) is =
    let all : length (entry_bytes (Acked number dn)) ≡ 10 = refl in
    omega (arith, all)
short (Retired number) is =
    let all : length (entry_bytes (Retired number)) ≡ 9 = refl in
    omega (arith, all)

pub is_frame : (entry : Entry) (bytes body frame : List ℕ) → IsShort entry → bytes ≡ entry_bytes entry → body ≡ bytes → body_of frame ≡ body → length frame ≡ length body + 5 → IsFrameOf entry frame
is_frame entry bytes body frame few spelled is framed size =
    let all : body ≡ entry_bytes entry = is ∙ spelled in
    let within = short entry few in
    let long = ap length all in
    record { body = framed ∙ all; least = omega (arith, size); most = omega (arith, size, within, long) }
