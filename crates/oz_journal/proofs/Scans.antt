-- How far a scan has come.
use Rattle.std.proofs.Common.{◌≡◌, ℕ, ◌+◌, ◌^◌, ◌<◌, List, [], ◌∷◌, ◌++◌, length, refl, sym, ◌∙◌, ap, subst, arith, append_assoc, length-append}
use Rattle.std.proofs.lemmas.List.{map_push}
use Rattle.oz_journal.specs.Body.{bodies_in, places_in}
use Rattle.oz_journal.specs.Grammar.{sized, records, HaveSizes, places}
use Rattle.oz_journal.specs.declared.body.Body.{Body}
use Rattle.oz_journal.proofs.Records.{records-push, sizes-push, length-sized}

pub places-push : (at : ℕ) (bodies : List (List ℕ)) (body : List ℕ) → places at (bodies ++ body ∷ []) ≡ places at bodies ++ (at + length (records bodies) + 5) ∷ []
unfolding places records
places-push at [] body = ap (λ (n : ℕ). n ∷ []) (omega arith)
places-push at (b ∷ bodies) body =
    let size : at + 5 + length b + length (records bodies) + 5 ≡ at + length (1 ∷ sized b ++ records bodies) + 5 =
    omega (arith, length-append (sized b) (records bodies), length-sized b) in
    ap (λ (l : List ℕ). (at + 5) ∷ l) (places-push (at + 5 + length b) bodies body ∙ ap (λ (n : ℕ). places (at + 5 + length b) bodies ++ n ∷ []) size)

-- the bytes are the records of the bodies so far, and a rest
pub record IsScanned (bytes rest : List ℕ) (found : List Body) : Type 0 where
  pub sizes : HaveSizes (bodies_in found)
  pub parts : bytes ≡ records (bodies_in found) ++ rest
  pub placed : places_in found ≡ places 0 (bodies_in found)

pub scanned_none : (bytes : List ℕ) → IsScanned bytes bytes []
unfolding places records
scanned_none bytes = record { sizes = tt; parts = refl; placed = refl }

-- one record more
pub scanned_more : (bytes rest behind after : List ℕ) (found : List Body) (body : Body) → IsScanned bytes rest found → rest ≡ 1 ∷ behind → behind ≡ sized body.bytes ++ after → length body.bytes < 2 ^ 32 → body.at + length rest ≡ length bytes + 5 → IsScanned bytes after (found ++ body ∷ [])
scanned_more bytes rest behind after found body scanned first is small place =
    let says : bodies_in (found ++ body ∷ []) ≡ bodies_in found ++ body.bytes ∷ [] = map_push (λ (b : Body). b.bytes) found body in
    let stands : places_in (found ++ body ∷ []) ≡ places_in found ++ body.at ∷ [] = map_push (λ (b : Body). b.at) found body in
    let at : body.at ≡ 0 + length (records (bodies_in found)) + 5 = omega (arith, place, ap length scanned.parts, length-append (records (bodies_in found)) rest) in
    record {
      sizes = subst HaveSizes (sym says) (sizes-push (bodies_in found) body.bytes scanned.sizes small);
      parts =
          scanned.parts
          ∙ (ap (λ (l : List ℕ). records (bodies_in found) ++ l) (first ∙ ap (λ (l : List ℕ). 1 ∷ l) is)
          ∙ (sym (append_assoc (records (bodies_in found)) (1 ∷ sized body.bytes) after)
          ∙ ap (λ (l : List ℕ). l ++ after) (sym (ap records says ∙ records-push (bodies_in found) body.bytes))));
      placed = stands ∙ (ap (λ (l : List ℕ). l ++ body.at ∷ []) scanned.placed ∙ (ap (λ (n : ℕ). places 0 (bodies_in found) ++ n ∷ []) at ∙ sym (ap (places 0) says ∙ places-push 0 (bodies_in found) body.bytes)));
    }
