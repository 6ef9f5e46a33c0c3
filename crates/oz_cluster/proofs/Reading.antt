-- What is read and written piece by piece.
use Rattle.std.proofs.Common.{◌↔◌, ◌≡◌, ℕ, ◌+◌, ◌-◌, ◌≤◌, zero, suc, List, [], ◌++◌, length, take, drop, Option, Some, None, IfSome, refl, sym, ◌∙◌, ap, subst, arith, append_assoc}
use Rattle.std.proofs.lemmas.List.{take-append-drop, take-take, drop-take, drop-drop, append-nil, take_all}
use Rattle.std.specs.Option.{option_map}

pub take_more : (n m : ℕ) (xs : List ℕ) → take (n + m) xs ≡ take n xs ++ take m (drop n xs)
take_more n m xs =
    sym (take-append-drop n (take (n + m) xs)) ∙ (ap (λ (l : List ℕ). l ++ drop n (take (n + m) xs)) (take-take n (n + m) xs (omega arith)) ∙ ap (λ (l : List ℕ). take n xs ++ l) (drop-take n m xs))

take_nil : (n : ℕ) → take {A = ℕ} n [] ≡ []
take_nil n = take_all n [] (omega arith)

pub read_left : (first before after : Option (List ℕ)) (n count : ℕ) → before ≡ option_map (drop n) first → after ≡ option_map (drop count) before → after ≡ option_map (drop (n + count)) first
read_left None before after n count was is = is ∙ ap (option_map (drop count)) was
read_left (Some bytes) before after n count was is = is ∙ (ap (option_map (drop count)) was ∙ ap Some (drop-drop count n bytes))

pub read_prefix : (first before : Option (List ℕ)) (text more : List ℕ) (n count : ℕ) → before ≡ option_map (drop n) first → IfSome first (λ bytes. text ≡ take n bytes) → IfSome before (λ rest. more ≡ text ++ take count rest) → IfSome first (λ bytes. more ≡ take (n + count) bytes)
read_prefix None before text more n count was prefix got = tt
read_prefix (Some bytes) before text more n count was prefix got =
    let same : more ≡ text ++ take count (drop n bytes) = subst (λ (o : Option (List ℕ)). IfSome o (λ rest. more ≡ text ++ take count rest)) was got in
    same ∙ (ap (λ (l : List ℕ). l ++ take count (drop n bytes)) prefix ∙ sym (take_more n count bytes))

-- where nothing is left the text is all that there was
pub read_all : (first before : Option (List ℕ)) (text : List ℕ) (limit : ℕ) → before ≡ option_map (drop (length text)) first → IfSome first (λ bytes. text ≡ take (length text) bytes) → IfSome before (λ rest. rest ≡ []) → length text ≤ limit → IfSome first (λ bytes. text ≡ take limit bytes)
read_all None before text limit was prefix none le = tt
read_all (Some bytes) before text limit was prefix none le =
    let rest : drop (length text) bytes ≡ [] = subst (λ (o : Option (List ℕ)). IfSome o (λ rest. rest ≡ [])) was none in
    let skip : limit ≡ length text + (limit - length text) = omega arith in
    prefix ∙ sym (ap (λ (n : ℕ). take n bytes) skip ∙ (take_more (length text) (limit - length text) bytes ∙ (ap (λ (l : List ℕ). take (length text) bytes ++ take (limit - length text) l) rest ∙ (ap (λ (l : List ℕ). take (length text) bytes ++ l) (take_nil (limit - length text)) ∙ append-nil _))))

pub read_end : (first before : Option (List ℕ)) (text more : List ℕ) (count limit : ℕ) → before ≡ option_map (drop (length text)) first → IfSome first (λ bytes. text ≡ take (length text) bytes) → IfSome before (λ rest. more ≡ text ++ take count rest) → IfSome before (λ rest. (count ≡ 0) ↔ (rest ≡ [])) → count ≡ 0 → length text ≤ limit → IfSome first (λ bytes. more ≡ take limit bytes)
read_end None before text more count limit was prefix got end none le = tt
read_end (Some bytes) before text more count limit was prefix got end none le =
    let ends = subst (λ (o : Option (List ℕ)). IfSome o (λ rest. (count ≡ 0) ↔ (rest ≡ []))) was end in
    let nothing : drop (length text) bytes ≡ [] = ends.0 none in
    let same : more ≡ text ++ take count (drop (length text) bytes) = subst (λ (o : Option (List ℕ)). IfSome o (λ rest. more ≡ text ++ take count rest)) was got in
    let all : text ≡ take limit bytes = read_all (Some bytes) (Some (drop (length text) bytes)) text limit refl prefix nothing le in
    same ∙ (ap (λ (l : List ℕ). text ++ take count l) nothing ∙ (ap (λ (l : List ℕ). text ++ l) (take_nil count) ∙ (append-nil text ∙ all)))

drop_nil : (n : ℕ) → drop {A = ℕ} n [] ≡ []
drop_nil zero = refl
drop_nil (suc n) = refl

-- what is left behind the end
pub read_to_end : (first before after : Option (List ℕ)) (n count limit : ℕ) → before ≡ option_map (drop n) first → IfSome before (λ rest. (count ≡ 0) ↔ (rest ≡ [])) → count ≡ 0 → after ≡ option_map (drop count) before → n ≤ limit → after ≡ option_map (drop limit) first
read_to_end None before after n count limit was end none is le = is ∙ ap (option_map (drop count)) was
read_to_end (Some bytes) before after n count limit was end none is le =
    let ends = subst (λ (o : Option (List ℕ)). IfSome o (λ rest. (count ≡ 0) ↔ (rest ≡ []))) was end in
    let nothing : drop n bytes ≡ [] = ends.0 none in
    let past : n + (limit - n) ≡ limit = omega (arith, le) in
    let all : drop limit bytes ≡ [] = ap (λ (k : ℕ). drop k bytes) (sym past) ∙ (sym (drop-drop (limit - n) n bytes) ∙ (ap (drop (limit - n)) nothing ∙ drop_nil (limit - n))) in
    is ∙ (ap (option_map (drop count)) was ∙ ap Some (ap (drop count) nothing ∙ (drop_nil count ∙ sym all)))

pub write_more : (first before after : Option (List ℕ)) (bytes rest : List ℕ) (at count : ℕ) → rest ≡ drop at bytes → before ≡ option_map (λ held. held ++ take at bytes) first → after ≡ option_map (λ held. held ++ take count rest) before → after ≡ option_map (λ held. held ++ take (at + count) bytes) first
write_more None before after bytes rest at count is was more = more ∙ ap (option_map (λ (held : List ℕ). held ++ take count rest)) was
write_more (Some held) before after bytes rest at count is was more =
    more
    ∙ (ap (option_map (λ (held : List ℕ). held ++ take count rest)) was
    ∙ ap Some (append_assoc held (take at bytes) (take count rest)
    ∙ (ap (λ (l : List ℕ). held ++ (take at bytes ++ take count l)) is
    ∙ ap (λ (l : List ℕ). held ++ l) (sym (take_more at count bytes)))))
