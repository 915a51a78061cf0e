-- Simple strings, compared with names by their bytes.
use Rattle.std.specs.Prelude.{◌≡◌, ℕ, ◌<◌, ◌≤◌, ◌==◌, ◌&&◌, Bool, true, false, cond, List, [], ◌∷◌, ◌++◌, length, drop, map, bytes_eq}
use Rattle.std.specs.Char.{to_ascii_uppercase}
use Rattle.std.specs.Str.{IsUtf8, is_utf8, chars}
use Rattle.std.proofs.Common.{refl, sym, ap, subst, ◌∙◌, arith, length-append}
use Rattle.std.proofs.lemmas.Bool.Decides.{nat_tests}
use Rattle.std.proofs.lemmas.Str.{chars-nil, IsUtf8-from_is_utf8, byte_from_char, chars_past_char}
use Rattle.std.proofs.Math.Bool.{Bool-set}
use Rattle.std.proofs.Math.Bridge.{le_prop}
use Rattle.std.proofs.Math.Logic.{∥∥₁_elim}
use Rattle.std.proofs.Math.Utf8.{encode, encodes}
use Rattle.step_literals.specs.Bytes.{is_word_byte, Each}
use Rattle.step_literals.specs.Strings.{is_high}
use Rattle.step_literals.specs.Tokens.{IsKeyword, doubled}
use Rattle.step_literals.specs.Words.{upper}
use Rattle.step_literals.specs.Items.{run_items}
use Rattle.step_literals.specs.declared.literal.items.Item.{Item}
use Rattle.step_literals.specs.declared.literal.items.Item.TheVariants.{Code, Raw}
use Rattle.step_literals.proofs.KeywordLemmas.{keyword_each}
use Rattle.express_lexer.specs.Tokens.{Spells, string}
use Rattle.express_lexer.specs.DoubledApostrophes.{undoubled}
use Rattle.express_lexer.specs.Meanings.{characters_behind, characters_of}
use Rattle.express_logic.specs.Comparison.{same_item, same_text}
use Rattle.express_logic.specs.steps.Taking.{of_codes}

-- bytes of names and points: ASCII, no apostrophe
abbrev pub IsPlain : List ℕ → Type 0
IsPlain [] = Unit {0}
IsPlain (b ∷ bs) = (b < 128) × ((b == 39) ≡ false) × IsPlain bs

-- a run of no bytes says nothing
nothing : run_items [] ≡ []
nothing = by (is_utf8 []) refl
  where
    by : (t : Bool) → is_utf8 [] ≡ t → cond t (map (λ c. Code c) (chars [])) (map (λ b. Raw b) []) ≡ []
    by true h = ap (map (λ c. Code c)) chars-nil
    by false h = refl

-- doubled apostrophes, one by one
undoubled_other : (b : ℕ) (bs : List ℕ) → (b == 39) ≡ false → undoubled (b ∷ bs) ≡ b ∷ undoubled bs
undoubled_other b [] h = refl
undoubled_other b (c ∷ bs) h = rw h refl

undoubled_apostrophe : (b : ℕ) (bs : List ℕ) → b ≡ 39 → undoubled (b ∷ bs) ≡ 39 ∷ undoubled (drop 1 bs)
undoubled_apostrophe b [] h = rw h refl
undoubled_apostrophe b (c ∷ bs) h = rw h refl

low_says : (b : ℕ) (bs : List ℕ) → is_high b ≡ false → characters_of (b ∷ bs) ≡ Code b ∷ characters_of bs
low_says b bs h = by ∙ ap (λ l. l ++ Code b ∷ characters_of bs) nothing
  where
    by : characters_behind [] (b ∷ bs) ≡ run_items [] ++ Code b ∷ characters_of bs
    by = rw h refl

-- An item that is no character of ASCII comes first.
record BeginsHigh (items : List Item) : Type 0 where
  first : Item
  rest : List Item
  split : items ≡ first ∷ rest
  other : (c : ℕ) → c < 128 → same_item first (Code c) ≡ false

begins_more : (items more : List Item) → BeginsHigh items → BeginsHigh (items ++ more)
begins_more items more h = record {
  first = h.first;
  rest = h.rest ++ more;
  split = ap (λ l. l ++ more) h.split;
  other = h.other;
}

-- the items of a run begin with one that isn't ASCII
run_high : (b : ℕ) (bs : List ℕ) → is_high b ≡ true → BeginsHigh (run_items (b ∷ bs))
run_high b bs high = by (is_utf8 (b ∷ bs)) refl
  where
    read : IsUtf8 (b ∷ bs) → BeginsHigh (map (λ c. Code c) (chars (b ∷ bs)))
    read ([], e) = let q = e.1 in absurd (cc)
    read (c ∷ cs, e) =
        let whole : b ∷ bs ≡ encode c ++ encodes cs = sym e.1 in
        record {
          first = Code c;
          rest = map (λ c. Code c) (chars (encodes cs));
          split = ap (map (λ c. Code c)) (chars_past_char (b ∷ bs) (encodes cs) c (c ∷ cs, e) whole);
          other = λ d low. apart c d (byte_from_char (b ∷ bs) (encodes cs) c whole) low;
        }
      where
        apart : (c d : ℕ) → (c < 128 → b ≡ c) → d < 128 → (c == d) ≡ false
        apart c d f low = grind (arith, nat_tests, f)

    by : (t : Bool) → is_utf8 (b ∷ bs) ≡ t
        → BeginsHigh (cond t (map (λ c. Code c) (chars (b ∷ bs))) (map (λ x. Raw x) (b ∷ bs)))
    by true h = read (IsUtf8-from_is_utf8 (b ∷ bs) h)
    by false h = record {
      first = Raw b;
      rest = map (λ x. Raw x) bs;
      split = refl;
      other = λ c low. refl;
    }

-- so do the items that begin with those of a run
run_then : (b : ℕ) (run bs : List ℕ) (c : ℕ) (t : Bool) → is_high b ≡ true
    → BeginsHigh (characters_behind (b ∷ run ++ c ∷ []) bs)
    → BeginsHigh (cond t (characters_behind (b ∷ run ++ c ∷ []) bs)
    (run_items (b ∷ run) ++ Code c ∷ characters_behind [] bs))
run_then b run bs c true high more = more
run_then b run bs c false high more =
    begins_more (run_items (b ∷ run)) (Code c ∷ characters_behind [] bs) (run_high b run high)

behind_high : (b : ℕ) (run bs : List ℕ) → is_high b ≡ true → BeginsHigh (characters_behind (b ∷ run) bs)
behind_high b run [] high = run_high b run high
behind_high b run (c ∷ bs) high = run_then b run bs c (is_high c) high (behind_high b (run ++ c ∷ []) bs high)

high_says : (b : ℕ) (bs : List ℕ) → is_high b ≡ true → BeginsHigh (characters_of (undoubled (b ∷ bs)))
high_says b bs high =
    subst BeginsHigh (sym (ap characters_of (undoubled_other b bs (grind (arith, nat_tests))) ∙ goes_on (undoubled bs)))
    (behind_high b [] (undoubled bs) high)
  where
    goes_on : (us : List ℕ) → characters_behind [] (b ∷ us) ≡ characters_behind (b ∷ []) us
    goes_on us = rw high refl

-- such an item is none of a name
none_same : (items : List Item) (t : List ℕ) → BeginsHigh items → IsPlain t → same_text items (of_codes t) ≡ false
none_same items [] h p = ap (λ l. same_text l []) h.split
none_same items (c ∷ cs) h p =
    ap (λ l. same_text l (of_codes (c ∷ cs))) h.split ∙ ap (λ k. k && same_text h.rest (of_codes cs)) (h.other c p.0)

not_equal : (b : ℕ) (bs t : List ℕ) → ((c : ℕ) → c < 128 → (c == 39) ≡ false → (b == c) ≡ false) → IsPlain t
    → bytes_eq (b ∷ bs) t ≡ false
not_equal b bs [] f p = refl
not_equal b bs (c ∷ cs) f p = ap (λ k. k && bytes_eq bs cs) (f c p.0 p.1)

-- an apostrophe is no byte of a name
apostrophe_same : (rest : List Item) (t : List ℕ) → IsPlain t → same_text (Code 39 ∷ rest) (of_codes t) ≡ false
apostrophe_same rest [] p = refl
apostrophe_same rest (c ∷ cs) p =
    let other : (39 == c) ≡ false = grind (arith, nat_tests, p.1) in ap (λ k. k && same_text rest (of_codes cs)) other

-- any other byte below 128 is its character
byte_same : (b : ℕ) (bs t : List ℕ)
    → ((cs : List ℕ) → IsPlain cs → same_text (characters_of (undoubled bs)) (of_codes cs) ≡ bytes_eq bs cs) → IsPlain t
    → same_text (Code b ∷ characters_of (undoubled bs)) (of_codes t) ≡ bytes_eq (b ∷ bs) t
byte_same b bs [] more p = refl
byte_same b bs (c ∷ cs) more p = ap (λ k. (b == c) && k) (more cs p.2)

first_same : (b : ℕ) (bs t : List ℕ) (is_apostrophe high : Bool) → (b == 39) ≡ is_apostrophe → is_high b ≡ high
    → ((cs : List ℕ) → IsPlain cs → same_text (characters_of (undoubled bs)) (of_codes cs) ≡ bytes_eq bs cs) → IsPlain t
    → same_text (characters_of (undoubled (b ∷ bs))) (of_codes t) ≡ bytes_eq (b ∷ bs) t
first_same b bs t true high a h more p =
    let is : b ≡ 39 = grind (arith, nat_tests) in
    ap (λ l. same_text l (of_codes t))
    (ap characters_of (undoubled_apostrophe b bs is) ∙ low_says 39 (undoubled (drop 1 bs)) refl)
    ∙ apostrophe_same (characters_of (undoubled (drop 1 bs))) t p
    ∙ sym (not_equal b bs t (λ c low other. grind (arith, nat_tests, is, low, other)) p)
first_same b bs t false true a h more p =
    none_same (characters_of (undoubled (b ∷ bs))) t (high_says b bs h) p
    ∙ sym (not_equal b bs t (λ c low other. grind (arith, nat_tests, h, low)) p)
first_same b bs t false false a h more p =
    ap (λ l. same_text l (of_codes t)) (ap characters_of (undoubled_other b bs a) ∙ low_says b (undoubled bs) h)
    ∙ byte_same b bs t more p

-- a string whose bytes are those of a name and no other has its characters
pub bytes_same : (bs t : List ℕ) → IsPlain t → same_text (characters_of (undoubled bs)) (of_codes t) ≡ bytes_eq bs t
bytes_same [] [] p = ap (λ l. same_text l []) nothing
bytes_same [] (c ∷ cs) p = ap (λ l. same_text l (of_codes (c ∷ cs))) nothing
bytes_same (b ∷ bs) t p = first_same b bs t (b == 39) (is_high b) refl refl (λ cs q. bytes_same bs cs q) p

-- a string has its apostrophes at least
pub has_two : (spelling t : List ℕ) → spelling ≡ t → ∥ Spells string t ∥₁ → 2 ≤ length spelling
has_two spelling t e s = ∥∥₁_elim s le_prop by
  where
    by : Spells string t → 2 ≤ length spelling
    by (content, is) = omega (arith, ap length e, ap length is, length-append (doubled content) (39 ∷ []))

-- names and the point between them

plain_more : (bs cs : List ℕ) → IsPlain bs → IsPlain cs → IsPlain (bs ++ cs)
plain_more [] cs p q = q
plain_more (b ∷ bs) cs p q = (p.0, p.1, plain_more bs cs p.2 q)

plain_name : (t : List ℕ) → Each is_word_byte t → IsPlain (upper t)
plain_name [] h = tt
plain_name (b ∷ bs) h = (low b h.0, other b h.0, plain_name bs h.1)
  where
    low : (b : ℕ) → is_word_byte b ≡ true → to_ascii_uppercase b < 128
    low b h = grind (arith, nat_tests)

    other : (b : ℕ) → is_word_byte b ≡ true → (to_ascii_uppercase b == 39) ≡ false
    other b h = grind (arith, nat_tests)

each_prop : (t : List ℕ) → IsProp (Each is_word_byte t)
each_prop [] = hlevel
each_prop (b ∷ bs) = let more = each_prop bs in hlevel (Bool-set, more)

word_bytes : (t : List ℕ) → ∥ IsKeyword t ∥₁ → Each is_word_byte t
word_bytes t h = ∥∥₁_elim h (each_prop t) (keyword_each t)

pub names_plain : (first second : List ℕ) → ∥ IsKeyword first ∥₁ → ∥ IsKeyword second ∥₁
    → IsPlain (upper first ++ 46 ∷ upper second)
names_plain first second f s =
    plain_more (upper first) (46 ∷ upper second) (plain_name first (word_bytes first f))
    (omega arith, refl, plain_name second (word_bytes second s))
