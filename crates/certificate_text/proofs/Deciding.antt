-- Whether a reading goes on with a line can be told.
use Rattle.std.proofs.Common.{◌≡◌, ℕ, suc, ◌<◌, ◌≤◌, ◌^◌, Bool, true, false, List, [], ◌∷◌, ◌++◌, length, get_or, take, drop, slice_get, Some, refl, sym, ap, ◌∙◌, subst, arith, ◌⊎◌, inl, inr, take-append-drop}
use Rattle.std.specs.Prelude.{codes, decimal}
use Rattle.std.specs.List.{prefix_len}
use Rattle.std.specs.Str.Parse.{digits_value}
use Rattle.std.proofs.lemmas.Bool.{false≢true, cases_Bool, cases_eq, cases_lt}
use Rattle.std.proofs.lemmas.Option.{slice_get-get_or}
use Rattle.std.proofs.lemmas.Fmt.{decimal_injective}
use Rattle.value_equality.specs.Tables.{Origin, start, split, Table, began}
use Rattle.value_equality.specs.Standard.{IsParent}
use Rattle.step_literals.specs.Bytes.{Each, Stops, is_digit}
use Rattle.step_literals.proofs.Choices.{Decided}
use Rattle.step_literals.proofs.Runs.{run_at_prefix}
use Rattle.certificate_text.specs.Texts.{rounds_line, origin_text, class_line, member_line}
use Rattle.certificate_text.specs.steps.ComputedParts.{IsShort, Fits, with_class, with_member, with_rounds, AddsClass, AddsMember, Adds, Reading, Takes}
use Rattle.certificate_text.specs.declared.reader.Part.{Part}
use Rattle.certificate_text.specs.declared.reader.Part.TheVariants.{Opening, Heading, FirstRounds, First, SecondRounds, Second, Ended}
use Rattle.certificate_text.proofs.NumberTexts.{all_digits, value_of, written, no_zero_first, some_digits}
use Rattle.certificate_text.proofs.LineWords.{tails, tails_of, origin_once}
use Rattle.certificate_text.proofs.Parsing.{cut_number, same_front}

heads : {A : Type 0} (x y : A) (xs ys : List A) → x ∷ xs ≡ y ∷ ys → x ≡ y
heads x y xs ys e = cc

wide : (n : ℕ) → n < 2 ^ 32 → n < 2 ^ 64
wide n lt = omega arith

-- a word in front, and what is behind it
abbrev pub Behind : List ℕ → List ℕ → Type 0
Behind w l = (rest : List ℕ) × (l ≡ w ++ rest)

pub behind_or_not : (w l : List ℕ) → Decided (Behind w l)
behind_or_not [] l = inl (l, refl)
behind_or_not (x ∷ w) [] = inr (λ p. let e = p.1 in absurd (cc))
behind_or_not (x ∷ w) (y ∷ l) = by (cases_eq y x) (behind_or_not w l)
  where
    by : (y ≡ x) ⊎ (y ≡ x → ⊥) → Decided (Behind w l) → Decided (Behind (x ∷ w) (y ∷ l))
    by (inl e) (inl q) = inl (q.0, λ i. e i ∷ q.1 i)
    by (inr n) d = inr (λ p. n (heads y x l (w ++ p.0) p.1))
    by (inl e) (inr n) = inr (λ p. n (p.0, tails y x l (w ++ p.0) p.1))

-- all of the bytes
pub whole_or_not : (w l : List ℕ) → Decided (l ≡ w)
whole_or_not [] [] = inl refl
whole_or_not [] (y ∷ l) = inr (λ e. absurd (cc))
whole_or_not (x ∷ w) [] = inr (λ e. absurd (cc))
whole_or_not (x ∷ w) (y ∷ l) = by (cases_eq y x) (whole_or_not w l)
  where
    by : (y ≡ x) ⊎ (y ≡ x → ⊥) → Decided (l ≡ w) → Decided (y ∷ l ≡ x ∷ w)
    by (inl e) (inl q) = inl (λ i. e i ∷ q i)
    by (inr n) d = inr (λ p. n (heads y x l w p))
    by (inl e) (inr n) = inr (λ p. n (tails y x l w p))

none_or_some : {A : Type 0} (xs : List A) → Decided (xs ≡ [])
none_or_some [] = inl refl
none_or_some (x ∷ xs) = inr (λ e. absurd (cc))

-- numbers
digits_or_not : (p : ℕ → Bool) (ds : List ℕ) → Decided (Each p ds)
digits_or_not p [] = inl tt
digits_or_not p (d ∷ ds) = by (cases_Bool (p d)) (digits_or_not p ds)
  where
    by : (p d ≡ true) ⊎ (p d ≡ false) → Decided (Each p ds) → Decided (Each p (d ∷ ds))
    by (inl h) (inl k) = inl (h, k)
    by (inr h) k = inr (λ e. false≢true (sym h ∙ e.0))
    by (inl h) (inr n) = inr (λ e. n e.1)

abbrev pub Number : ℕ → List ℕ → Type 0
Number bound ds = (n : ℕ) × (n < bound) × (ds ≡ decimal n)

module _ (ds : List ℕ) (bound : ℕ) (le : bound ≤ 2 ^ 64) where
  by_value : Each is_digit ds → 0 < length ds → (get_or ds 0 0 ≡ 48 → length ds ≡ 1)
      → (digits_value 10 ds < bound) ⊎ (bound ≤ digits_value 10 ds) → Decided (Number bound ds)
  by_value d some alone (inl lt) = inl (digits_value 10 ds, lt, written ds d some alone (omega (arith, lt, le)))
  by_value d some alone (inr ge) = inr (λ p.
      let same : digits_value 10 ds ≡ p.0 = ap (digits_value 10) p.2 ∙ value_of p.0 (omega (arith, p.1, le)) in
      omega (arith, same, ge, p.1))

  by_first : Each is_digit ds → 0 < length ds → (get_or ds 0 0 ≡ 48) ⊎ (get_or ds 0 0 ≡ 48 → ⊥)
      → (1 < length ds) ⊎ (length ds ≤ 1) → Decided (Number bound ds)
  by_first d some (inl z) (inl more) = inr (λ p. no_zero_first ds p.0 (omega (arith, p.1, le)) p.2 z more)
  by_first d some (inl z) (inr one) = by_value d some (λ h. omega (arith, some, one)) (cases_lt (digits_value 10 ds) bound)
  by_first d some (inr n) l = by_value d some (λ h. absurd (n h)) (cases_lt (digits_value 10 ds) bound)

  by_length : Each is_digit ds → (0 < length ds) ⊎ (length ds ≤ 0) → Decided (Number bound ds)
  by_length d (inl some) = by_first d some (cases_eq (get_or ds 0 0) 48) (cases_lt 1 (length ds))
  by_length d (inr none) = inr (λ p. omega (arith, none, some_digits ds p.0 (omega (arith, p.1, le)) p.2))

  plain : Each is_digit ds → Decided (Number bound ds)
  plain d = by_length d (cases_lt 0 (length ds))

  by_digits : Decided (Each is_digit ds) → Decided (Number bound ds)
  by_digits (inl d) = plain d
  by_digits (inr n) = inr (λ p. n (subst (Each is_digit) (sym p.2) (all_digits p.0 (omega (arith, p.1, le)))))

  pub number_or_not : Decided (Number bound ds)
  number_or_not = by_digits (digits_or_not is_digit ds)

-- a number in front
pub record Front (l : List ℕ) : Type 0 where
  pub number : ℕ
  pub rest : List ℕ
  pub fits : number < 2 ^ 64
  pub stops : Stops is_digit rest
  pub line_is : l ≡ decimal number ++ rest

front_by : (l ds r : List ℕ) → l ≡ ds ++ r → Each is_digit ds → Stops is_digit r → Decided (Number (2 ^ 64) ds)
    → Decided (Front l)
front_by l ds r e d stops (inl q) = inl (record {
  number = q.0;
  rest = r;
  fits = q.1;
  stops = stops;
  line_is = e ∙ ap (λ x. x ++ r) q.2;
})
front_by l ds r e d stops (inr n) =
    inr (λ p. n (p.number, p.fits, (cut_number l ds r e d stops p.number p.rest p.fits p.stops p.line_is).0))

pub front_or_not : (l : List ℕ) → Decided (Front l)
front_or_not l =
    let n = prefix_len is_digit l in
    let run = run_at_prefix is_digit l in
    front_by l (take n l) (drop n l) (sym (take-append-drop n l)) run.passes run.stops
    (number_or_not (take n l) (2 ^ 64) (omega arith))

-- the rounds of a table
abbrev pub Rounds : List ℕ → Type 0
Rounds l = (k : ℕ) × (k < 2 ^ 32) × (l ≡ rounds_line k)

pub rounds_or_not : (l : List ℕ) → Decided (Rounds l)
rounds_or_not l = by (behind_or_not (codes "rounds ") l)
  where
    digits : (rest : List ℕ) → l ≡ codes "rounds " ++ rest → Decided (Number (2 ^ 32) rest) → Decided (Rounds l)
    digits rest e (inl q) = inl (q.0, q.1, e ∙ ap (λ x. codes "rounds " ++ x) q.2)
    digits rest e (inr n) = inr (λ p. n (p.0, p.1, tails_of (codes "rounds ") rest (decimal p.0) (sym e ∙ p.2)))

    by : Decided (Behind (codes "rounds ") l) → Decided (Rounds l)
    by (inl q) = digits q.0 q.1 (number_or_not q.0 (2 ^ 32) (omega arith))
    by (inr n) = inr (λ p. n (decimal p.0, p.2))

-- where a class comes from
abbrev pub From : List ℕ → Type 0
From l = (o : Origin) × IsShort o × (l ≡ origin_text o)

abbrev Parted : List ℕ → Type 0
Parted l = (p : ℕ) × (r : ℕ) × (p < 2 ^ 32) × (r < 2 ^ 32) × (l ≡ origin_text (split p r))

module _ (l inner : List ℕ) (h : l ≡ codes "=C" ++ inner) where
  inside : (p r : ℕ) → l ≡ origin_text (split p r) → inner ≡ decimal p ++ (64 ∷ decimal r)
  inside p r e = tails_of (codes "=C") inner (decimal p ++ (64 ∷ decimal r)) (sym h ∙ e)

  module _ (f : Front inner) where
    parent_is : (p r : ℕ) → p < 2 ^ 32 → l ≡ origin_text (split p r) → (f.number ≡ p) × (f.rest ≡ 64 ∷ decimal r)
    parent_is p r lp e =
        same_front inner f.number f.rest f.fits f.stops f.line_is p (64 ∷ decimal r) (wide p lp) refl (inside p r e)

    by_parent : (k : ℕ) → k < 2 ^ 32 → f.rest ≡ 64 ∷ decimal k → (f.number < 2 ^ 32) ⊎ (2 ^ 32 ≤ f.number)
        → Decided (Parted l)
    by_parent k lk e (inl lt) = inl (
      f.number,
      k,
      lt,
      lk,
      h ∙ ap (λ x. codes "=C" ++ x) (f.line_is ∙ ap (λ x. decimal f.number ++ x) e),
    )
    by_parent k lk e (inr ge) =
        inr (λ p. let same = (parent_is p.0 p.1 p.2 p.4).0 in let lt = p.2 in omega (arith, same, lt, ge))

    by_round : (rest : List ℕ) → f.rest ≡ 64 ∷ rest → Decided (Number (2 ^ 32) rest) → Decided (Parted l)
    by_round rest e (inl q) = by_parent q.0 q.1 (e ∙ ap (λ x. 64 ∷ x) q.2) (cases_lt f.number (2 ^ 32))
    by_round rest e (inr n) =
        inr (λ p. n (p.1, p.3, tails 64 64 rest (decimal p.1) (sym e ∙ (parent_is p.0 p.1 p.2 p.4).1)))

    by_mark : Decided (Behind (codes "@") f.rest) → Decided (Parted l)
    by_mark (inl q) = by_round q.0 q.1 (number_or_not q.0 (2 ^ 32) (omega arith))
    by_mark (inr n) = inr (λ p. n (decimal p.1, (parent_is p.0 p.1 p.2 p.4).1))

  by_front : Decided (Front inner) → Decided (Parted l)
  by_front (inl f) = by_mark f (behind_or_not (codes "@") f.rest)
  by_front (inr n) = inr (λ p. n (record {
    number = p.0;
    rest = 64 ∷ decimal p.1;
    fits = wide p.0 p.2;
    stops = refl;
    line_is = inside p.0 p.1 p.4;
  }))

parted_or_not : (l : List ℕ) → Decided (Parted l)
parted_or_not l = by (behind_or_not (codes "=C") l)
  where
    by : Decided (Behind (codes "=C") l) → Decided (Parted l)
    by (inl q) = by_front l q.0 q.1 (front_or_not q.0)
    by (inr n) = inr (λ p. n (decimal p.0 ++ (64 ∷ decimal p.1), p.4))

from_no_split : (l : List ℕ) → (l ≡ [] → ⊥) → (Parted l → ⊥) → (o : Origin) → IsShort o → l ≡ origin_text o → ⊥
from_no_split l some none start h e = some e
from_no_split l some none (split p r) h e = none (p, r, h.0, h.1, e)

pub from_or_not : (l : List ℕ) → Decided (From l)
from_or_not l = by (none_or_some l) (parted_or_not l)
  where
    by : Decided (l ≡ []) → Decided (Parted l) → Decided (From l)
    by (inl e) d = inl (start, tt, e)
    by (inr some) (inl p) = inl (split p.0 p.1, (p.2, p.3), p.4)
    by (inr some) (inr none) = inr (λ p. from_no_split l some none p.0 p.1 p.2)

-- the next class fits
same_some : {A : Type 0} (x y : A) → Some x ≡ Some y → x ≡ y
same_some x y e = cc

module _ (t : Table) (p r : ℕ) (lt : p < length t.classes) (o : Origin) (at : slice_get t.classes p ≡ Some o) where
  since : (i : IsParent t (length t.classes) p r) → began o < r
  since i = subst (λ x. began x < r) (same_some i.origin o (sym i.origin_is ∙ at)) i.earlier

  by_rounds : (began o < r) ⊎ (r ≤ began o) → (t.rounds < r) ⊎ (r ≤ t.rounds) → Decided (IsParent t (length t.classes) p r)
  by_rounds (inl a) (inr b) = inl (record { before = lt; origin = o; origin_is = at; earlier = a; in_time = b })
  by_rounds (inl a) (inl b) = inr (λ i. let late = i.in_time in omega (arith, late, b))
  by_rounds (inr a) b = inr (λ i. let less = since i in omega (arith, less, a))

fits_or_not : (t : Table) (o : Origin) → Decided (Fits t o)
fits_or_not t start = inl tt
fits_or_not t (split p r) = by (cases_lt p (length t.classes))
  where
    by : (p < length t.classes) ⊎ (length t.classes ≤ p) → Decided (IsParent t (length t.classes) p r)
    by (inl lt) = by_rounds t p r lt (get_or t.classes p start) (slice_get-get_or t.classes p start lt)
        (cases_lt (began (get_or t.classes p start)) r) (cases_lt t.rounds r)
    by (inr ge) = inr (λ i. let lt = i.before in omega (arith, lt, ge))

-- the next class
abbrev NextClass : Table → List ℕ → Type 0
NextClass t l = (u : Table) × AddsClass t l u

module _ (t : Table) (l : List ℕ) (none : t.members ≡ []) (few : suc (length t.classes) < 2 ^ 32) (text : List ℕ)
    (h : l ≡ codes "C" ++ (decimal (length t.classes) ++ text)) where
  text_is : (o : Origin) → l ≡ class_line (length t.classes) o → text ≡ origin_text o
  text_is o e = tails_of (decimal (length t.classes)) text (origin_text o) (tails 67 67 (decimal (length t.classes) ++ text)
      (decimal (length t.classes) ++ origin_text o) (sym h ∙ e))

  by_fit : (o : Origin) → IsShort o → text ≡ origin_text o → Decided (Fits t o) → Decided (NextClass t l)
  by_fit o s e (inl f) = inl (
    with_class t o,
    record {
      origin = o;
      no_member = none;
      few = few;
      short = s;
      fits = f;
      line_is = h ∙ ap (λ x. codes "C" ++ (decimal (length t.classes) ++ x)) e;
      table_is = refl;
    },
  )
  by_fit o s e (inr n) = inr (λ p. let a = p.1 in
      n (subst (Fits t) (origin_once a.origin o a.short s (sym (text_is a.origin a.line_is) ∙ e)) a.fits))

  by_origin : Decided (From text) → Decided (NextClass t l)
  by_origin (inl q) = by_fit q.0 q.1 q.2 (fits_or_not t q.0)
  by_origin (inr n) = inr (λ p. let a = p.1 in n (a.origin, a.short, text_is a.origin a.line_is))

class_or_not : (t : Table) (l : List ℕ) → Decided (NextClass t l)
class_or_not t l = by_members (none_or_some t.members) (cases_lt (suc (length t.classes)) (2 ^ 32))
  where
    by_number : (none : t.members ≡ []) (few : suc (length t.classes) < 2 ^ 32) (text : List ℕ) → l ≡ codes "C" ++ text
        → Decided (Behind (decimal (length t.classes)) text) → Decided (NextClass t l)
    by_number none few text e (inl q) =
        by_origin t l none few q.0 (e ∙ ap (λ x. codes "C" ++ x) q.1) (from_or_not q.0)
    by_number none few text e (inr never) = inr (λ p. let a = p.1 in
        never (
          origin_text a.origin,
          tails_of (codes "C") text (decimal (length t.classes) ++ origin_text a.origin)
              (sym e ∙ a.line_is),
        ))

    by_word : (none : t.members ≡ []) (few : suc (length t.classes) < 2 ^ 32) → Decided (Behind (codes "C") l)
        → Decided (NextClass t l)
    by_word none few (inl q) = by_number none few q.0 q.1 (behind_or_not (decimal (length t.classes)) q.0)
    by_word none few (inr never) = inr (λ p. let a = p.1 in never (decimal (length t.classes) ++ origin_text a.origin, a.line_is))

    by_members : Decided (t.members ≡ []) → (suc (length t.classes) < 2 ^ 32) ⊎ (2 ^ 32 ≤ suc (length t.classes))
        → Decided (NextClass t l)
    by_members (inl none) (inl few) = by_word none few (behind_or_not (codes "C") l)
    by_members (inl none) (inr ge) = inr (λ p. let lt = p.1.few in omega (arith, lt, ge))
    by_members (inr some) few = inr (λ p. some p.1.no_member)

-- the next member
abbrev NextMember : Table → List ℕ → Type 0
NextMember t l = (u : Table) × AddsMember t l u

module _ (t : Table) (l text : List ℕ) (h : l ≡ codes "#" ++ text) where
  name_is : (m : ℕ × ℕ) → l ≡ member_line m → text ≡ decimal m.0 ++ (61 ∷ 67 ∷ decimal m.1)
  name_is m e = tails_of (codes "#") text (decimal m.0 ++ (61 ∷ 67 ∷ decimal m.1)) (sym h ∙ e)

  module _ (f : Front text) where
    behind_name : (m : ℕ × ℕ) → m.0 < 2 ^ 64 → l ≡ member_line m → (f.number ≡ m.0) × (f.rest ≡ 61 ∷ 67 ∷ decimal m.1)
    behind_name m lm e = same_front text f.number f.rest f.fits f.stops f.line_is m.0 (61 ∷ 67 ∷ decimal m.1) lm refl
        (name_is m e)

    module _ (rest : List ℕ) (e : f.rest ≡ codes "=C" ++ rest) where
      class_is : (m : ℕ × ℕ) → m.0 < 2 ^ 64 → l ≡ member_line m → rest ≡ decimal m.1
      class_is m lm k = tails_of (codes "=C") rest (decimal m.1) (sym e ∙ (behind_name m lm k).1)

      by_declared : (c : ℕ) → c < 2 ^ 32 → rest ≡ decimal c → (c < length t.classes) ⊎ (length t.classes ≤ c)
          → Decided (NextMember t l)
      by_declared c lc k (inl lt) = inl (
        with_member t (f.number, c),
        record {
          member = (f.number, c);
          short = f.fits;
          short_class = lc;
          declared = lt;
          line_is = h ∙ ap (λ x. codes "#" ++ x) (f.line_is ∙ ap (λ x. decimal f.number ++ x) (e ∙ ap (λ x. codes "=C" ++ x) k));
          table_is = refl;
        },
      )
      by_declared c lc k (inr ge) = inr (λ p.
          let a = p.1 in
          let same : a.member.1 ≡ c = decimal_injective a.member.1 c (wide a.member.1 a.short_class) (wide c lc)
          (sym (class_is a.member a.short a.line_is) ∙ k) in
          let lt = a.declared in
          omega (arith, same, lt, ge))

      by_class : Decided (Number (2 ^ 32) rest) → Decided (NextMember t l)
      by_class (inl q) = by_declared q.0 q.1 q.2 (cases_lt q.0 (length t.classes))
      by_class (inr n) =
          inr (λ p. let a = p.1 in n (a.member.1, a.short_class, class_is a.member a.short a.line_is))

    by_equals : Decided (Behind (codes "=C") f.rest) → Decided (NextMember t l)
    by_equals (inl q) = by_class q.0 q.1 (number_or_not q.0 (2 ^ 32) (omega arith))
    by_equals (inr n) =
        inr (λ p. let a = p.1 in n (decimal a.member.1, (behind_name a.member a.short a.line_is).1))

  by_name : Decided (Front text) → Decided (NextMember t l)
  by_name (inl f) = by_equals f (behind_or_not (codes "=C") f.rest)
  by_name (inr n) = inr (λ p. let a = p.1 in n (record {
    number = a.member.0;
    rest = 61 ∷ 67 ∷ decimal a.member.1;
    fits = a.short;
    stops = refl;
    line_is = name_is a.member a.line_is;
  }))

member_or_not : (t : Table) (l : List ℕ) → Decided (NextMember t l)
member_or_not t l = by (behind_or_not (codes "#") l)
  where
    by : Decided (Behind (codes "#") l) → Decided (NextMember t l)
    by (inl q) = by_name t l q.0 q.1 (front_or_not q.0)
    by (inr n) = inr (λ p. let a = p.1 in n (decimal a.member.0 ++ (61 ∷ 67 ∷ decimal a.member.1), a.line_is))

abbrev NextEntry : Table → List ℕ → Type 0
NextEntry t l = (u : Table) × Adds t l u

neither : (t : Table) (l : List ℕ) → (NextClass t l → ⊥) → (NextMember t l → ⊥) → (u : Table) → Adds t l u → ⊥
neither t l c m u (inl a) = c (u, a)
neither t l c m u (inr a) = m (u, a)

entry_or_not : (t : Table) (l : List ℕ) → Decided (NextEntry t l)
entry_or_not t l = by (class_or_not t l) (member_or_not t l)
  where
    by : Decided (NextClass t l) → Decided (NextMember t l) → Decided (NextEntry t l)
    by (inl q) d = inl (q.0, inl q.1)
    by (inr n) (inl q) = inl (q.0, inr q.1)
    by (inr n) (inr m) = inr (λ p. neither t l n m p.0 p.1)

-- what a reading becomes by a line
abbrev pub Next : Part → Table → Table → List ℕ → Type 0
Next p s t l = (b : Reading) × Takes (record { part = p; first = s; second = t }) l b

in_first : (s t : Table) (l : List ℕ) → Decided (l ≡ codes "table 2") → Decided (NextEntry s l) → Decided (Next First s t l)
in_first s t l (inl e) d = inl (record { part = SecondRounds; first = s; second = t }, inl (e, refl))
in_first s t l (inr n) (inl q) = inl (record { part = First; first = q.0; second = t }, inr (q.0, q.1, refl))
in_first s t l (inr n) (inr m) = inr (λ p. refused p.0 p.1)
  where
    refused : (b : Reading) → Takes (record { part = First; first = s; second = t }) l b → ⊥
    refused b (inl q) = n q.0
    refused b (inr q) = m (q.0, q.1)

in_second : (s t : Table) (l : List ℕ) → Decided (l ≡ codes "end") → Decided (NextEntry t l) → Decided (Next Second s t l)
in_second s t l (inl e) d = inl (record { part = Ended; first = s; second = t }, inl (e, refl))
in_second s t l (inr n) (inl q) = inl (record { part = Second; first = s; second = q.0 }, inr (q.0, q.1, refl))
in_second s t l (inr n) (inr m) = inr (λ p. refused p.0 p.1)
  where
    refused : (b : Reading) → Takes (record { part = Second; first = s; second = t }) l b → ⊥
    refused b (inl q) = n q.0
    refused b (inr q) = m (q.0, q.1)

pub next_or_not : (p : Part) (s t : Table) (l : List ℕ) → Decided (Next p s t l)
next_or_not Opening s t l = by (whole_or_not (codes "STEPCERT 2") l)
  where
    by : Decided (l ≡ codes "STEPCERT 2") → Decided (Next Opening s t l)
    by (inl e) = inl (record { part = Heading; first = s; second = t }, (e, refl))
    by (inr n) = inr (λ p. n p.1.0)
next_or_not Heading s t l = by (whole_or_not (codes "table 1") l)
  where
    by : Decided (l ≡ codes "table 1") → Decided (Next Heading s t l)
    by (inl e) = inl (record { part = FirstRounds; first = s; second = t }, (e, refl))
    by (inr n) = inr (λ p. n p.1.0)
next_or_not FirstRounds s t l = by (rounds_or_not l)
  where
    by : Decided (Rounds l) → Decided (Next FirstRounds s t l)
    by (inl q) = inl (record { part = First; first = with_rounds s q.0; second = t }, (q.0, q.1, q.2, refl))
    by (inr n) = inr (λ p. let q = p.1 in n (q.0, q.1, q.2))
next_or_not First s t l = in_first s t l (whole_or_not (codes "table 2") l) (entry_or_not s l)
next_or_not SecondRounds s t l = by (rounds_or_not l)
  where
    by : Decided (Rounds l) → Decided (Next SecondRounds s t l)
    by (inl q) = inl (record { part = Second; first = s; second = with_rounds t q.0 }, (q.0, q.1, q.2, refl))
    by (inr n) = inr (λ p. let q = p.1 in n (q.0, q.1, q.2))
next_or_not Second s t l = in_second s t l (whole_or_not (codes "end") l) (entry_or_not t l)
next_or_not Ended s t l = inr (λ p. p.1)
