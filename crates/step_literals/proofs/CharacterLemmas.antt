-- Runs at the front of a clean string, and the characters in them.
use Rattle.std.proofs.Common.{◌≡◌, ℕ, zero, suc, ◌+◌, ◌*◌, ◌/◌, ◌%◌, ◌≤◌, ◌<◌, Bool, true, false, cond, List, [], ◌∷◌, ◌++◌, length, get_or, take, drop, set, drop-drop, refl, sym, ap, subst, ◌∙◌, arith, append_assoc, take-append-drop, length-take, length-append, nat_lt, ◌-◌, length-drop}
use Rattle.std.proofs.lemmas.List.{take_all, take-take, take_more, take_more_set, get_or-drop}
use Rattle.std.proofs.lemmas.Int.Digits.{digits_value-lt, digits_value_more}
use Rattle.std.proofs.Math.Nat.{pow-le-pow_right}
use Rattle.std.proofs.lemmas.List.Sums.{prefix_len-le-length}
use Rattle.std.proofs.lemmas.Bool.Decides.{nat_tests}
use Rattle.std.proofs.lemmas.Bool.{false≢true}
use Rattle.std.proofs.lemmas.Str.{IsUtf8-append, IsUtf8-encode, IsUtf8-nil, IsUtf8-past_char, IsUtf8-from_is_utf8, is_utf8-from_IsUtf8, byte_from_char, encode_same, len_utf8_bounds, length-encode, cons_from_encodes}
use Rattle.std.proofs.Math.Utf8.{encode, encodes, scalar, scalars}
use Rattle.std.specs.Char.{IsScalar, digit_value}
use Rattle.std.specs.Str.Parse.{digits_value, AllDigits}
use Rattle.std.specs.List.{prefix_len}
use Rattle.std.specs.Str.{IsUtf8, is_utf8}
use Rattle.step_literals.specs.Bytes.{Each, Stops, is_hex}
use Rattle.step_literals.specs.Strings.{is_high}
use Rattle.step_literals.proofs.Runs.{front_back}
use Rattle.step_literals.proofs.PieceSpelling.{both, each_first}
use Rattle.step_literals.specs.steps.Characters.{high_run, hex_run, BeginsCharacter, BeginsNone, BeginsHigh, BeginsNoHigh}

-- a run of two parts
pub prefix_through : (p : ℕ → Bool) (xs ys : List ℕ) → Each p xs → prefix_len p (xs ++ ys) ≡ length xs + prefix_len p ys
prefix_through p [] ys h = omega arith
prefix_through p (x ∷ xs) ys h = rw h.0 (omega (arith, prefix_through p xs ys h.1))

take_through : (k : ℕ) (xs ys : List ℕ) → take (length xs + k) (xs ++ ys) ≡ xs ++ take k ys
take_through k [] ys = ap (λ n. take n ys) {x = 0 + k} {y = k} (omega arith)
take_through k (x ∷ xs) ys = ap (λ n. take n (x ∷ (xs ++ ys))) {x = length (x ∷ xs) + k} {y = suc (length xs + k)}
    (omega arith) ∙ ap (λ l. x ∷ l) (take_through k xs ys)

drop_through : (k : ℕ) (xs ys : List ℕ) → drop (length xs + k) (xs ++ ys) ≡ drop k ys
drop_through k [] ys = ap (λ n. drop n ys) {x = 0 + k} {y = k} (omega arith)
drop_through k (x ∷ xs) ys = ap (λ n. drop n (x ∷ (xs ++ ys))) {x = length (x ∷ xs) + k} {y = suc (length xs + k)}
    (omega arith) ∙ drop_through k xs ys

ends_on : (t : Bool) (k n : ℕ) → suc k ≤ cond t (1 + n) 0 → (k ≤ n → n ≡ k) → cond t (1 + n) 0 ≡ suc k
ends_on true k n le f = omega (arith, le, f)
ends_on false k n le f = absurd (omega (arith, le))

goes_on : (t : Bool) (k n : ℕ) → suc k ≤ cond t (1 + n) 0 → (k ≤ n → k + 1 ≤ n) → suc k + 1 ≤ cond t (1 + n) 0
goes_on true k n le f = omega (arith, le, f)
goes_on false k n le f = absurd (omega (arith, le))

-- a run ends where a byte doesn't pass
pub run_ends : (p : ℕ → Bool) (k : ℕ) (bs : List ℕ) → k ≤ prefix_len p bs → Stops p (drop k bs) → prefix_len p bs ≡ k
run_ends p zero [] h stop = refl
run_ends p zero (b ∷ bs) h stop = rw stop refl
run_ends p (suc k) [] h stop = absurd (omega (arith, h))
run_ends p (suc k) (b ∷ bs) h stop = ends_on (p b) k (prefix_len p bs) h (λ le. run_ends p k bs le stop)

pub run_goes_on : (p : ℕ → Bool) (k : ℕ) (bs rest : List ℕ) (b : ℕ) → k ≤ prefix_len p bs → drop k bs ≡ b ∷ rest
    → p b ≡ true → k + 1 ≤ prefix_len p bs
run_goes_on p zero [] rest b h e pass = absurd (cc)
run_goes_on p zero (x ∷ xs) rest b h e pass = let same : x ≡ b = cc in let q : p x ≡ true = ap p same ∙ pass in
    rw q (omega arith)
run_goes_on p (suc k) [] rest b h e pass = absurd (cc)
run_goes_on p (suc k) (x ∷ xs) rest b h e pass = goes_on (p x) k (prefix_len p xs) h
    (λ le. run_goes_on p k xs rest b le e pass)

-- UTF-8

high_byte : (n : ℕ) → 128 ≤ n → is_high n ≡ true
high_byte n h = grind (arith, nat_tests)

encode_tests : (c : ℕ) (s t u : Bool) → nat_lt c 128 ≡ s → 128 ≤ c
    → Each is_high (cond s (c ∷ []) (cond t ((192 + c / 64) ∷ (128 + c % 64) ∷ [])
    (cond u ((224 + c / 4096) ∷ (128 + c / 64 % 64) ∷ (128 + c % 64) ∷ []) ((240 + c / 262144)
    ∷ (128 + c / 4096 % 64) ∷ (128 + c / 64 % 64) ∷ (128 + c % 64) ∷ []))))
encode_tests c true t u e h = absurd (grind (arith, nat_tests))
encode_tests c false true u e h = (high_byte _ (omega arith), (high_byte _ (omega arith), tt))
encode_tests c false false true e h = (
  high_byte _ (omega arith),
  (high_byte _ (omega arith), (high_byte _ (omega arith), tt)),
)
encode_tests c false false false e h = (
  high_byte _ (omega arith),
  (high_byte _ (omega arith), (high_byte _ (omega arith), (high_byte _ (omega arith), tt))),
)

-- a character from 128 up has no byte below
encode_high : (c : ℕ) → 128 ≤ c → Each is_high (encode c)
unfolding encode
encode_high c h = encode_tests c (nat_lt c 128) (nat_lt c 2048) (nat_lt c 65536) refl h

-- the run behind a character
pub high_run_behind : {bs rest : List ℕ} {c : ℕ} → BeginsHigh bs c rest → high_run bs ≡ encode c ++ high_run rest
high_run_behind {bs} {rest} {c} h =
    let n = prefix_through is_high (encode c) rest (encode_high c h.1) in
    ap high_run h.0.split ∙ ap (λ k. take k (encode c ++ rest)) n ∙ take_through (prefix_len is_high rest) (encode c)
    rest

-- what follows the run is the same
pub behind_high_run : {bs rest : List ℕ} {c : ℕ} → BeginsHigh bs c rest → drop (prefix_len is_high bs) bs ≡ drop
    (prefix_len is_high rest) rest
behind_high_run {bs} {rest} {c} h =
    let n = prefix_through is_high (encode c) rest (encode_high c h.1) in
    ap (λ l. drop (prefix_len is_high l) l) h.0.split ∙ ap (λ k. drop k (encode c ++ rest)) n
    ∙ drop_through (prefix_len is_high rest) (encode c) rest

same_answer : (a b : List ℕ) (s t : Bool) → is_utf8 a ≡ s → is_utf8 b ≡ t → (IsUtf8 a → IsUtf8 b)
    → (IsUtf8 b → IsUtf8 a) → s ≡ t
same_answer a b true true ha hb f g = refl
same_answer a b false false ha hb f g = refl
same_answer a b true false ha hb f g = absurd
    (false≢true (sym hb ∙ is_utf8-from_IsUtf8 b (f (IsUtf8-from_is_utf8 a ha))))
same_answer a b false true ha hb f g = absurd
    (false≢true (sym ha ∙ is_utf8-from_IsUtf8 a (g (IsUtf8-from_is_utf8 b hb))))

-- a run is UTF-8 if what follows its first character is
pub utf8_behind : {bs rest : List ℕ} {c : ℕ} → BeginsHigh bs c rest → is_utf8 (high_run bs) ≡ is_utf8 (high_run rest)
utf8_behind {bs} {rest} {c} h =
    let run = high_run_behind h in
    ap is_utf8 run ∙ same_answer (encode c ++ high_run rest) (high_run rest) (is_utf8 (encode c ++ high_run rest))
    (is_utf8 (high_run rest)) refl refl
    (λ u. IsUtf8-past_char (encode c ++ high_run rest) (high_run rest) c u refl)
    (λ u. IsUtf8-append (encode c) (high_run rest) (IsUtf8-encode c h.0.scalar_is) u)

no_run : (bs : List ℕ) → Stops is_high bs → high_run bs ≡ []
no_run [] h = refl
no_run (b ∷ bs) h = rw h refl

utf8_nil : is_utf8 [] ≡ true
utf8_nil = is_utf8-from_IsUtf8 [] IsUtf8-nil

-- at the end of a run there is nothing to refuse
pub utf8_at_end : (bs : List ℕ) → Stops is_high bs → is_utf8 (high_run bs) ≡ true
utf8_at_end bs h = ap is_utf8 (no_run bs h) ∙ utf8_nil

pub run_first : (b : ℕ) (bs : List ℕ) → is_high b ≡ true → high_run (b ∷ bs) ≡ b ∷ high_run bs
run_first b bs h = rw h (ap (λ n. take n (b ∷ bs)) {x = 1 + prefix_len is_high bs} {y = suc (prefix_len is_high bs)}
    (omega arith))

-- where no character begins, the run isn't UTF-8
no_character : (b : ℕ) (bs : List ℕ) → is_high b ≡ true → BeginsNoHigh (b ∷ bs) → IsUtf8 (b ∷ high_run bs) → ⊥
no_character b bs high none ([], e) = let q = e.1 in cc
no_character b bs high none (c ∷ cs, e) =
    let whole : b ∷ high_run bs ≡ encode c ++ encodes cs = sym e.1 in
    let run : high_run (b ∷ bs) ≡ encode c ++ encodes cs = run_first b bs high ∙ whole in
    let n = prefix_len is_high (b ∷ bs) in
    let cut : b ∷ bs ≡ encode c ++ (encodes cs ++ drop n (b ∷ bs)) = sym (take-append-drop n (b ∷ bs))
    ∙ ap (λ l. l ++ drop n (b ∷ bs)) run ∙ append_assoc (encode c) (encodes cs) (drop n (b ∷ bs)) in
    let large : 128 ≤ b = grind (arith, nat_tests) in
    none c (encodes cs ++ drop n (b ∷ bs)) (
      record {
        scalar_is = (both (scalar c) (scalars cs) e.0).0;
        split = cut;
      },
      above c (byte_from_char (b ∷ bs) (encodes cs ++ drop n (b ∷ bs)) c cut) large,
    )
  where
    above : (c : ℕ) → (c < 128 → b ≡ c) → 128 ≤ b → 128 ≤ c
    above c f le = grind (arith, f, le)

-- at the end of a run a byte that begins no character is refused
pub utf8_refused : (bs rest : List ℕ) (b : ℕ) → bs ≡ b ∷ rest → is_high b ≡ true → BeginsNoHigh bs
    → is_utf8 (high_run bs) ≡ false
utf8_refused bs rest b e high none = refused (is_utf8 (high_run bs)) refl
  where
    refused : (t : Bool) → is_utf8 (high_run bs) ≡ t → t ≡ false
    refused false h = refl
    refused true h =
        let run : high_run bs ≡ b ∷ high_run rest = ap high_run e ∙ run_first b rest high in
        absurd (no_character b rest high (subst BeginsNoHigh e none)
        (subst IsUtf8 run (IsUtf8-from_is_utf8 (high_run bs) h)))

-- the first character of a text, and of bytes that begin with it

-- no front of the bytes longer than this is UTF-8
abbrev pub NoLonger : ℕ → List ℕ → Type 0
NoLonger n bytes = (m : ℕ) → n < m → m ≤ length bytes → IsUtf8 (take m bytes) → ⊥

pub first_none : (bytes text : List ℕ) → NoLonger (length text) bytes → length text ≡ 0 → BeginsNone bytes
first_none bytes text longest empty = λ c rest h.
    let cut = front_back bytes (encode c) rest (length (encode c)) h.split refl in
    longest (length (encode c)) (omega (arith, empty, length-encode c, len_utf8_bounds c)) cut.0
    (subst IsUtf8 (sym cut.1) (IsUtf8-encode c h.scalar_is))

scalar_first : (cs es : List ℕ) (c : ℕ) → scalars cs ≡ true → cs ≡ c ∷ es → IsScalar c
scalar_first cs es c h e = (both (scalar c) (scalars es) (sym (ap scalars e) ∙ h)).0

pub first_some : (bytes text rest : List ℕ) (c : ℕ) → text ≡ take (length text) bytes → IsUtf8 text → text ≡ encode c
    ++ rest → (more : List ℕ) × BeginsCharacter bytes c more
first_some bytes text rest c front u e =
    let n = length text in
    let first = cons_from_encodes u.0 rest c (u.1.1 ∙ e) in (
      rest ++ drop n bytes,
      record {
        scalar_is = scalar_first u.0 first.0 c u.1.0 first.1;
        split = sym (take-append-drop n bytes) ∙ ap (λ l. l ++ drop n bytes) (sym front ∙ e) ∙ append_assoc (encode c)
            rest (drop n bytes);
      },
    )

-- a character has four bytes at most
pub window_none : {bs front : List ℕ} → front ≡ take 4 bs → BeginsNone front → BeginsNoHigh bs
window_none {bs} {front} e none = λ c rest h.
    let k = 4 - length (encode c) in
    let len : 4 ≡ length (encode c) + k = omega (arith, length-encode c, len_utf8_bounds c) in
    let cut : front ≡ encode c ++ take k rest = e ∙ ap (λ l. take 4 l) h.0.split ∙ ap (λ n. take n (encode c ++ rest))
    len ∙ take_through k (encode c) rest in
    none c (take k rest) (record { scalar_is = h.0.scalar_is; split = cut })

pub window_some : {bs front rest : List ℕ} {c : ℕ} → front ≡ take 4 bs → BeginsCharacter front c rest
    → BeginsCharacter bs c (drop (length (encode c)) bs)
window_some {bs} {front} {rest} {c} e h =
    let whole : bs ≡ encode c ++ (rest ++ drop 4 bs) = sym (take-append-drop 4 bs) ∙ ap (λ l. l ++ drop 4 bs)
    (sym e ∙ h.split) ∙ append_assoc (encode c) rest (drop 4 bs) in
    let cut = front_back bs (encode c) (rest ++ drop 4 bs) (length (encode c)) whole refl in
    record { scalar_is = h.scalar_is; split = whole ∙ ap (λ l. encode c ++ l) (sym cut.2) }

-- the character that the bytes begin with is the only one
pub none_high : {bs rest : List ℕ} {c : ℕ} → BeginsCharacter bs c rest → c < 128 → BeginsNoHigh bs
none_high {bs} {rest} {c} h low = λ d more g. omega (
  arith,
  (encode_same c d rest more (sym h.split ∙ g.0.split)).0,
  g.1,
  low,
)

-- numbers in hexadecimal digits

taken : (k : ℕ) (bs : List ℕ) → k ≤ length bs → length (take k bs) ≡ k
taken k bs h = omega (arith, length-take k bs)

-- the element at a place where something is left
pub at_drop : (k b : ℕ) (bs rest : List ℕ) → drop k bs ≡ b ∷ rest → (k < length bs) × (get_or bs k 0 ≡ b)
at_drop k b bs rest e = (
  omega (arith, ap length e, length-drop k bs),
  ap (λ n. get_or bs n 0) {x = k} {y = k + 0} (omega arith) ∙ sym (get_or-drop k bs 0 0) ∙ ap (λ l. get_or l 0 0) e,
)

pub is_hex_digit : (b : ℕ) → digit_value b < 16 → is_hex b ≡ true
is_hex_digit b h = hex_tests b (nat_lt b 48) (nat_lt b 58) (nat_lt b 65) (nat_lt b 91) (nat_lt b 97) (nat_lt b 123) refl
    refl refl refl refl refl h
  where
    hex_tests : (b : ℕ) (s t u v w x : Bool) → nat_lt b 48 ≡ s → nat_lt b 58 ≡ t → nat_lt b 65 ≡ u → nat_lt b 91 ≡ v
        → nat_lt b 97 ≡ w → nat_lt b 123 ≡ x
        → cond s 36 (cond t (b - 48) (cond u 36 (cond v (b - 55) (cond w 36 (cond x (b - 87) 36))))) < 16
        → is_hex b ≡ true
    hex_tests b s t u v w x es et eu ev ew ex lt = grind (arith, nat_tests)

pub no_hex_digit : (b : ℕ) → (digit_value b < 16 → ⊥) → is_hex b ≡ false
no_hex_digit b h = grind (arith, nat_tests)

hex_small : (b : ℕ) → is_hex b ≡ true → digit_value b < 16
hex_small b h = grind (arith, nat_tests)

all_digits : (bs : List ℕ) → Each is_hex bs → AllDigits 16 bs
all_digits [] h = tt
all_digits (b ∷ bs) h = (hex_small b h.0, all_digits bs h.1)

-- seven digits leave room for one more
pub number_small : (k : ℕ) (bs : List ℕ) → k ≤ prefix_len is_hex bs → k < 8 → digits_value 16 (take k bs) < 268435456
number_small k bs h less =
    let few : length (take k bs) ≤ 7 = omega (arith, length-take k bs) in
    omega (
      arith,
      digits_value-lt 16 (take k bs) (all_digits (take k bs) (each_first k bs h)),
      pow-le-pow_right {n = 16}
          (omega arith) few,
    )

-- what so many digits are, where there are as many, and where they end before
pub digits_full : (w : ℕ) (bs : List ℕ) → w ≤ prefix_len is_hex bs → (take w (hex_run bs) ≡ take w bs)
    × (length (take w (hex_run bs)) ≡ w)
digits_full w bs h =
    let e = take-take w (prefix_len is_hex bs) bs h in
    (e, ap length e ∙ taken w bs (omega (arith, h, prefix_len-le-length is_hex bs)))

pub digits_end : (w k : ℕ) (bs : List ℕ) → k < w → k ≤ prefix_len is_hex bs → Stops is_hex (drop k bs)
    → (take w (hex_run bs) ≡ take k bs) × (length (take w (hex_run bs)) ≡ k)
digits_end w k bs less le stop =
    let n = run_ends is_hex k bs le stop in
    let e = ap (λ m. take w (take m bs)) n ∙ take_all w (take k bs) (omega (arith, length-take k bs)) in
    (e, ap length e ∙ taken k bs (omega (arith, le, prefix_len-le-length is_hex bs)))

-- one digit more
pub digit_more : (k b : ℕ) (bs rest : List ℕ) → k ≤ prefix_len is_hex bs → drop k bs ≡ b ∷ rest
    → digits_value 16 (take (k + 1) bs) ≡ digits_value 16 (take k bs) * 16 + digit_value b
digit_more k b bs rest le e =
    let here = at_drop k b bs rest e in
    digits_value_more 16 bs k here.0 ∙ ap (λ x. digits_value 16 (take k bs) * 16 + digit_value x) here.1

-- one element less
pub drop_more : (k : ℕ) (bs : List ℕ) {b : ℕ} {rest : List ℕ} → drop k bs ≡ b ∷ rest → rest ≡ drop (k + 1) bs
drop_more k bs {b} {rest} e = ap (λ l. drop 1 l) (sym e) ∙ drop-drop 1 k bs

-- one byte more in a window
pub window_more : (k b : ℕ) (window bs rest : List ℕ) → k < length window → take k window ≡ take k bs → drop k bs ≡ b
    ∷ rest → take (k + 1) (set window k b) ≡ take (k + 1) bs
window_more k b window bs rest lt same e =
    let here = at_drop k b bs rest e in
    take_more_set window k b lt ∙ ap (λ l. l ++ b ∷ []) same
    ∙ sym (take_more bs k 0 here.0 ∙ ap (λ x. take k bs ++ x ∷ []) here.1)

-- less is left behind a character
pub shorter_behind : {bs rest : List ℕ} {c : ℕ} → BeginsCharacter bs c rest → length rest < length bs
shorter_behind {bs} {rest} {c} h = omega (
  arith,
  ap length h.split,
  length-append (encode c) rest,
  length-encode c,
  len_utf8_bounds c,
)

pub utf8_nothing : {bs : List ℕ} → bs ≡ [] → is_utf8 (high_run bs) ≡ true
utf8_nothing {bs} e = ap (λ l. is_utf8 (high_run l)) e ∙ utf8_at_end [] tt

-- where no character begins, the byte there decides
pub utf8_decided : {bs rest : List ℕ} {b : ℕ} → bs ≡ b ∷ rest → BeginsNoHigh bs → is_utf8 (high_run bs) ≡ nat_lt b 128
utf8_decided {bs} {rest} {b} e none = decided (nat_lt b 128) refl
  where
    decided : (t : Bool) → nat_lt b 128 ≡ t → is_utf8 (high_run bs) ≡ t
    decided true h = let low : is_high b ≡ false = grind (arith, nat_tests) in ap (λ l. is_utf8 (high_run l)) e
        ∙ utf8_at_end (b ∷ rest) low
    decided false h = utf8_refused bs rest b e (grind (arith, nat_tests)) none
