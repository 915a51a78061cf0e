-- Names in capitals, compared with bytes.
use Rattle.std.specs.Prelude.{◌≡◌, ℕ, zero, suc, ◌+◌, ◌<◌, ◌≤◌, ◌==◌, ◌&&◌, Bool, true, false, List, [], ◌∷◌, ◌++◌, length, get_or, take, drop, bytes_eq}
use Rattle.std.specs.Char.{to_ascii_uppercase}
use Rattle.std.proofs.Common.{refl, sym, ap, ◌∙◌, arith, drop_of_length-le, take-append-drop, length-take}
use Rattle.std.proofs.lemmas.Bool.Decides.{nat_tests}
use Rattle.std.proofs.lemmas.List.{length-map}
use Rattle.std.proofs.lemmas.Slice.Eq.{bytes_eq-Decides}
use Rattle.step_literals.specs.Words.{upper}
use Rattle.schema_semantics.proofs.Bools.{is-false}

-- What is left decides.
abbrev pub left_same : List ℕ → List ℕ → ℕ → Bool
left_same bytes letters i = bytes_eq (drop i bytes) (upper (drop i letters))

left_first : (bytes letters : List ℕ) (i : ℕ) → i < length bytes → i < length letters
    → left_same bytes letters i
    ≡ ((get_or bytes i 0 == to_ascii_uppercase (get_or letters i 0)) && left_same bytes letters (suc i))
left_first [] letters i lt le = absurd (omega (arith, lt))
left_first (b ∷ bs) [] i lt le = absurd (omega (arith, le))
left_first (b ∷ bs) (l ∷ ls) zero lt le = refl
left_first (b ∷ bs) (l ∷ ls) (suc i) lt le = left_first bs ls i (omega (arith, lt)) (omega (arith, le))

none_left : (bytes letters : List ℕ) (i : ℕ) → length bytes ≤ i → length letters ≤ i → left_same bytes letters i ≡ true
none_left bytes letters i le more =
    λ j. bytes_eq (drop_of_length-le bytes le j) (upper (drop_of_length-le letters more j))

-- equal bytes are as many
pub other_length : (bytes other : List ℕ) → (length bytes ≡ length other → ⊥) → bytes_eq bytes other ≡ false
other_length bytes other f = is-false (bytes_eq bytes other) (λ h. f (ap length ((bytes_eq-Decides bytes other).0 h)))

module _ (bytes letters name : List ℕ) (spelled : letters ≡ name) where
  pub other_size : (length bytes ≡ length letters → ⊥) → false ≡ bytes_eq bytes (upper name)
  other_size f =
      sym (other_length bytes (upper name)
      (λ e. f (omega (arith, e, length-map name to_ascii_uppercase, ap length spelled))))

  module _ (i : ℕ) (long : length bytes ≡ length letters) (before : left_same bytes letters i ≡ bytes_eq bytes (upper letters)) where
    pub letter_same : i < length letters → get_or bytes i 0 ≡ to_ascii_uppercase (get_or letters i 0)
        → left_same bytes letters (i + 1) ≡ bytes_eq bytes (upper letters)
    letter_same lt same =
        let next : i + 1 ≡ suc i = omega arith in
        let test : (get_or bytes i 0 == to_ascii_uppercase (get_or letters i 0)) ≡ true = grind (arith, nat_tests, same) in
        ap (left_same bytes letters) next ∙ ap (λ b. b && left_same bytes letters (suc i)) (sym test)
        ∙ sym (left_first bytes letters i (omega (arith, long, lt)) lt) ∙ before

    pub letter_differs : i < length letters → (get_or bytes i 0 ≡ to_ascii_uppercase (get_or letters i 0) → ⊥)
        → false ≡ bytes_eq bytes (upper name)
    letter_differs lt other =
        let test : (get_or bytes i 0 == to_ascii_uppercase (get_or letters i 0)) ≡ false = grind (arith, nat_tests, other) in
        ap (λ b. b && left_same bytes letters (suc i)) (sym test)
        ∙ sym (left_first bytes letters i (omega (arith, long, lt)) lt) ∙ before
        ∙ ap (λ l. bytes_eq bytes (upper l)) spelled

    pub all_same : length letters ≤ i → true ≡ bytes_eq bytes (upper name)
    all_same le =
        sym (none_left bytes letters i (omega (arith, long, le)) le) ∙ before ∙ ap (λ l. bytes_eq bytes (upper l)) spelled

-- bytes in two parts
parted : (a b c d : List ℕ) → length a ≡ length b → bytes_eq (a ++ c) (b ++ d) ≡ (bytes_eq a b && bytes_eq c d)
parted [] [] c d e = refl
parted [] (y ∷ ys) c d e = absurd (omega (arith, e))
parted (x ∷ xs) [] c d e = absurd (omega (arith, e))
parted (x ∷ xs) (y ∷ ys) c d e = by (x == y) (parted xs ys c d (omega (arith, e)))
  where
    by : (t : Bool) → bytes_eq (xs ++ c) (ys ++ d) ≡ (bytes_eq xs ys && bytes_eq c d)
        → (t && bytes_eq (xs ++ c) (ys ++ d)) ≡ ((t && bytes_eq xs ys) && bytes_eq c d)
    by true h = h
    by false h = refl

-- two names and the point between them
module _ (bytes first second front behind : List ℕ) (within : length first ≤ length bytes)
    (front-is : front ≡ take (length first) bytes) (behind-is : behind ≡ drop (length first) bytes) where
  dotted_parts : bytes_eq bytes (upper first ++ 46 ∷ upper second)
      ≡ (bytes_eq front (upper first) && bytes_eq behind (46 ∷ upper second))
  dotted_parts =
      let whole : bytes ≡ front ++ behind =
      sym ((λ i. front-is i ++ behind-is i) ∙ take-append-drop (length first) bytes) in
      let long : length front ≡ length (upper first) = omega (
        arith,
        within,
        ap length front-is,
        length-take (length first) bytes,
        length-map first to_ascii_uppercase,
      ) in
      ap (λ l. bytes_eq l (upper first ++ 46 ∷ upper second)) whole
      ∙ parted front (upper first) behind (46 ∷ upper second) long

  pub dotted_then : (value last : Bool) → value ≡ bytes_eq behind (46 ∷ upper second) → value ≡ true
      → last ≡ bytes_eq front (upper first) → last ≡ bytes_eq bytes (upper first ++ 46 ∷ upper second)
  dotted_then value last e h f =
      by last ∙ (λ i. f i && (sym h ∙ e) i) ∙ sym dotted_parts
    where
      by : (b : Bool) → b ≡ (b && true)
      by true = refl
      by false = refl

  pub dotted_else : (value : Bool) → value ≡ bytes_eq behind (46 ∷ upper second) → value ≡ false
      → value ≡ bytes_eq bytes (upper first ++ 46 ∷ upper second)
  dotted_else value e h =
      h ∙ by (bytes_eq front (upper first)) ∙ ap (λ b. bytes_eq front (upper first) && b) (sym h ∙ e) ∙ sym dotted_parts
    where
      by : (b : Bool) → false ≡ (b && false)
      by true = refl
      by false = refl
