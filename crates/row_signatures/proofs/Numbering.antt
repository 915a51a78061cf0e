-- Numbers tell kinds apart.
use Rattle.std.proofs.Common.{◌≡◌, ◌≢◌, ◌<◌, ◌+◌, ℕ, zero, suc, Bool, true, false, cond, List, [], ◌∷◌, ◌++◌, length, Option, Some, None, refl, sym, ap, ◌∙◌, subst, arith, slice_get, eqb-true, eq-eqb, ◌⊎◌, inl, inr}
use Rattle.std.specs.Prelude.{◌==◌, ◌||◌, ◌↔◌, slice_index}
use Rattle.std.specs.List.{IsDistinct}
use Rattle.std.proofs.lemmas.Bool.{false≢true}
use Rattle.std.proofs.lemmas.Option.{get_or_from_slice_get, slice_get-get_or, slice_get_within}
use Rattle.value_equality.specs.steps.ComputedKinds.{kind_test}
use Rattle.value_equality.specs.ValueEquality.{AreAlike}
use Rattle.value_equality.specs.Rows.{Row, Kind, row_kind, names, row_at}
use Rattle.value_equality.proofs.Lookup.{same_row}
use Rattle.value_equality.proofs.OneKind.{kinds_decide}
use Rattle.value_equality.proofs.Placing.{stands_at, name_at}
use Rattle.row_signatures.proofs.Naming.{item_at, once, one_place, row_stands}
use Rattle.row_signatures.specs.steps.Numbers.{ArePlaces}
use Rattle.row_signatures.specs.steps.ComputedKinds.{IsNumber, AreNumbers, earlier, first_in}

pub before : {A : Type 0} (xs : List A) (x : A) (i : ℕ) → i < length xs → slice_get (xs ++ x ∷ []) i ≡ slice_get xs i
before [] x i l = absurd (omega (arith, l))
before (y ∷ xs) x zero l = refl
before (y ∷ xs) x (suc i) l = before xs x i (omega (arith, l))

pub behind : {A : Type 0} (xs : List A) (x : A) (i : ℕ) → i ≡ length xs → slice_get (xs ++ x ∷ []) i ≡ Some x
behind [] x zero l = refl
behind [] x (suc i) l = absurd (omega (arith, l))
behind (y ∷ xs) x zero l = absurd (omega (arith, l))
behind (y ∷ xs) x (suc i) l = behind xs x i (omega (arith, l))

pub last_or_before : (i n : ℕ) → i < n + 1 → (i ≡ n) ⊎ (i < n)
last_or_before i n lt = by (i == n) refl
  where
    by : (b : Bool) → (i == n) ≡ b → (i ≡ n) ⊎ (i < n)
    by true e = inl (eqb-true i n e)
    by false e = inr (let other : i ≢ n = (λ q. false≢true (sym e ∙ eq-eqb i n q)) in omega (arith, lt, other))

pub none_before : (pinned : ℕ → Bool) (rows : List Row) → AreNumbers pinned rows [] (λ _. None) 0
none_before pinned rows = record {
  each = refl;
  of_pinned = λ i r lt. absurd (omega (arith, lt));
  of_free = λ i r lt. absurd (omega (arith, lt));
  told = λ k m e. absurd (cc);
}

-- one row more
module _ (pinned : ℕ → Bool) (rows : List Row) (ns : List ℕ) (first next : Kind → Option ℕ) (n m : ℕ) (r : Row)
    (at : slice_get rows n ≡ Some r) (all : AreNumbers pinned rows ns first n) (one : IsNumber pinned r n m first next)
  where
    old_there : (i : ℕ) → i < n → slice_get (ns ++ m ∷ []) i ≡ slice_get ns i
    old_there i lt = let each = all.each in before ns m i (omega (arith, lt, each))

    new_there : (i : ℕ) → i ≡ n → slice_get (ns ++ m ∷ []) i ≡ Some m
    new_there i e = behind ns m i (e ∙ sym all.each)

    -- it is the new row
    this : (i : ℕ) (s : Row) → i ≡ n → slice_get rows i ≡ Some s → s ≡ r
    this i s e h = once s r (sym h ∙ ap (slice_get rows) e ∙ at)

    some : (o : Option ℕ) (k : Kind) → first k ≡ o → o ≢ None → kind_test k (row_kind r) ≡ true
        → pinned r.name ≡ false → Some m ≡ first k
    some None k e there same free = absurd (there refl)
    some (Some x) k e there same free =
        let kr : first (row_kind r) ≡ Some x = ap first (sym ((kinds_decide k (row_kind r)).0 same)) ∙ e in
        ap Some (one.of_free free ∙ ap (λ o. earlier o n) kr) ∙ sym e

    -- the number of an earlier row stays that of its kind
    stays : (k : Kind) → first k ≢ None → next k ≡ first k
    stays k there = by (pinned r.name) refl
      where
        test : (b : Bool) → pinned r.name ≡ false → kind_test k (row_kind r) ≡ b → cond b (Some m) (first k) ≡ first k
        test true free e = some (first k) k refl there e free
        test false free e = refl

        by : (b : Bool) → pinned r.name ≡ b → next k ≡ first k
        by true e = one.kept e k
        by false e = one.noted e k ∙ test (kind_test k (row_kind r)) e refl

    own : pinned r.name ≡ false → next (row_kind r) ≡ Some m
    own free = one.noted free (row_kind r)
        ∙ ap (λ b. cond b (Some m) (first (row_kind r))) ((kinds_decide (row_kind r) (row_kind r)).1 refl)

    abbrev Told : Kind → ℕ → Type 0
    Told k x = (s : Row) × (slice_get rows x ≡ Some s) × (pinned s.name ≡ false) × (row_kind s ≡ k)

    new_told : (o : Option ℕ) → first (row_kind r) ≡ o → pinned r.name ≡ false → Told (row_kind r) (earlier o n)
    new_told None e free = (r, at, free, refl)
    new_told (Some y) e free = all.told (row_kind r) y e

    told_now : (k : Kind) (x : ℕ) → next k ≡ Some x → Told k x
    told_now k x h = by (pinned r.name) refl
      where
        test : (b : Bool) → pinned r.name ≡ false → kind_test k (row_kind r) ≡ b → cond b (Some m) (first k) ≡ Some x
            → Told k x
        test true free e g =
            let number : earlier (first (row_kind r)) n ≡ x = sym (one.of_free free) ∙ once m x g in
            subst (λ l. Told l x) (sym ((kinds_decide k (row_kind r)).0 e))
            (subst (Told (row_kind r)) number (new_told (first (row_kind r)) refl free))
        test false free e g = all.told k x g

        by : (b : Bool) → pinned r.name ≡ b → Told k x
        by true e = all.told k x (sym (one.kept e k) ∙ h)
        by false e = test (kind_test k (row_kind r)) e refl (sym (one.noted e k) ∙ h)

    pub one_more : AreNumbers pinned rows (ns ++ m ∷ []) next (n + 1)
    one_more = record {
      each = count ns ∙ ap (λ k. k + 1) all.each;
      of_pinned = λ i s lt h p. elim (last_or_before i n lt) [
        | inl e ↦ new_there i e ∙ ap Some (one.of_pinned (ap (λ (q : Row). pinned q.name) (sym (this i s e h)) ∙ p) ∙ sym e)
        | inr l ↦ old_there i l ∙ all.of_pinned i s l h p
      ];
      of_free = λ i s lt h p. elim (last_or_before i n lt) [
        | inl e ↦
            new_there i e ∙ sym (own (ap (λ (q : Row). pinned q.name) (sym (this i s e h)) ∙ p))
            ∙ ap (λ (q : Row). next (row_kind q)) (sym (this i s e h))
        | inr l ↦ old_there i l ∙ old_free i s l h p
      ];
      told = told_now;
    }
      where
        count : (xs : List ℕ) → length (xs ++ m ∷ []) ≡ length xs + 1
        count [] = refl
        count (x ∷ xs) = let k = count xs in omega (arith, k)

        not_none : (x : ℕ) (o : Option ℕ) → o ≡ Some x → o ≢ None
        not_none x o e f = absurd (cc)

        old_free : (i : ℕ) (s : Row) → i < n → slice_get rows i ≡ Some s → pinned s.name ≡ false
            → slice_get ns i ≡ next (row_kind s)
        old_free i s l h p =
            let each = all.each in
            let item = item_at ns i (omega (arith, l, each)) in
            let is = all.of_free i s l h p in
            is ∙ sym (stays (row_kind s) (not_none item.0 (first (row_kind s)) (sym is ∙ item.1)))

-- So two rows have one number exactly where they are alike.
module _ (pinned : ℕ → Bool) (rows : List Row) (distinct : IsDistinct (◌==◌) (names rows)) (ns : List ℕ)
    (first : Kind → Option ℕ) (all : AreNumbers pinned rows ns first (length rows)) (i j : ℕ)
    (lt : i < length rows) (less : j < length rows) (p q : Row) (at : slice_get rows i ≡ Some p)
    (there : slice_get rows j ≡ Some q) (a b : ℕ) (number : slice_get ns i ≡ Some a)
    (other : slice_get ns j ≡ Some b) where
  -- the number of a free row isn't the place of a pinned one
  clash : (k l x y : ℕ) (r s : Row) → k < length rows → l < length rows → slice_get rows k ≡ Some r
      → slice_get rows l ≡ Some s → slice_get ns k ≡ Some x → slice_get ns l ≡ Some y → pinned r.name ≡ true
      → pinned s.name ≡ false → x ≢ y
  clash k l x y r s f g h u v w e c same =
      let t = all.told (row_kind s) y (sym (all.of_free l s g u c) ∙ w) in
      let place : k ≡ x = once k x (sym (all.of_pinned k r f h e) ∙ v) in
      let row : t.0 ≡ r = once t.0 r (sym t.1 ∙ ap (slice_get rows) (sym same ∙ sym place) ∙ h) in
      false≢true (sym t.2 ∙ ap (λ (z : Row). pinned z.name) row ∙ e)

  alike : row_kind p ≡ row_kind q → ((pinned p.name || pinned q.name) ≡ true → p.name ≡ q.name)
      → AreAlike rows pinned p.name q.name
  alike kind same = record {
    left = p;
    right = q;
    left_is = row_stands rows i p distinct at;
    right_is = row_stands rows j q distinct there;
    same_kind = kind;
    same_if_pinned = same;
  }

  one_number : a ≡ b → AreAlike rows pinned p.name q.name
  one_number e = by (pinned p.name) (pinned q.name) refl refl
    where
      by : (c d : Bool) → pinned p.name ≡ c → pinned q.name ≡ d → AreAlike rows pinned p.name q.name
      by true true f g =
          let x : i ≡ a = once i a (sym (all.of_pinned i p lt at f) ∙ number) in
          let y : j ≡ b = once j b (sym (all.of_pinned j q less there g) ∙ other) in
          let row : p ≡ q = once p q (sym at ∙ ap (slice_get rows) (x ∙ e ∙ sym y) ∙ there) in
          alike (ap row_kind row) (λ _. ap (λ (r : Row). r.name) row)
      by true false f g = absurd (clash i j a b p q lt less at there number other f g e)
      by false true f g = absurd (clash j i b a q p less lt there at other number g f (sym e))
      by false false f g =
          let s = all.told (row_kind p) a (sym (all.of_free i p lt at f) ∙ number) in
          let t = all.told (row_kind q) b (sym (all.of_free j q less there g) ∙ other) in
          let row : s.0 ≡ t.0 = once s.0 t.0 (sym s.1 ∙ ap (slice_get rows) e ∙ t.1) in
          alike (sym s.3 ∙ ap row_kind row ∙ t.3) (λ h. absurd (false≢true (sym (λ k. f k || g k) ∙ h)))

  alike_number : AreAlike rows pinned p.name q.name → a ≡ b
  alike_number h = by (pinned p.name) (pinned q.name) refl refl
    where
      same : (pinned p.name || pinned q.name) ≡ true → a ≡ b
      same e = once a b (sym number ∙ ap (slice_get ns) (one_place rows i j p q distinct at there (h.same_if_pinned e))
          ∙ other)

      kind : row_kind p ≡ row_kind q
      kind = ap row_kind (same_row (row_at rows p.name) (row_stands rows i p distinct at) h.left_is) ∙ h.same_kind
          ∙ ap row_kind (same_row (row_at rows q.name) h.right_is (row_stands rows j q distinct there))

      by : (c d : Bool) → pinned p.name ≡ c → pinned q.name ≡ d → a ≡ b
      by true d f g = same (ap (λ x. x || pinned q.name) f)
      by false true f g = same ((λ k. f k || g k))
      by false false f g =
          once a b (sym number ∙ all.of_free i p lt at f ∙ ap first kind ∙ sym (all.of_free j q less there g) ∙ other)

pub numbers_tell : (pinned : ℕ → Bool) (rows : List Row) → IsDistinct (◌==◌) (names rows) → (ns : List ℕ)
    (first : Kind → Option ℕ) → AreNumbers pinned rows ns first (length rows) → (i j : ℕ) → i < length rows
    → j < length rows → (slice_index ns i ≡ slice_index ns j)
    ↔ AreAlike rows pinned (slice_index (names rows) i) (slice_index (names rows) j)
numbers_tell pinned rows distinct ns first all i j lt less =
    let each = all.each in
    let p = stands_at rows i lt in
    let q = stands_at rows j less in
    let a = item_at ns i (omega (arith, lt, each)) in
    let b = item_at ns j (omega (arith, less, each)) in
    let x = get_or_from_slice_get ns i a.0 0 a.1 in
    let y = get_or_from_slice_get ns j b.0 0 b.1 in
    let m = get_or_from_slice_get (names rows) i p.0.name 0 (name_at rows i p.0 p.1) in
    let n = get_or_from_slice_get (names rows) j q.0.name 0 (name_at rows j q.0 q.1) in (
      λ e. subst (λ k. AreAlike rows pinned k (slice_index (names rows) j)) (sym m)
          (subst (AreAlike rows pinned p.0.name) (sym n)
          (one_number pinned rows distinct ns first all i j lt less p.0 q.0 p.1 q.1 a.0 b.0 a.1 b.1
          (sym x ∙ e ∙ y))),
      λ h. x
          ∙ alike_number pinned rows distinct ns first all i j lt less p.0 q.0 p.1 q.1 a.0 b.0 a.1 b.1
          (subst (AreAlike rows pinned p.0.name) n
          (subst (λ k. AreAlike rows pinned k (slice_index (names rows) j)) m h)) ∙ sym y,
    )

-- each number is the place of a row that has it
pub numbers_are_places : (pinned : ℕ → Bool) (rows : List Row) (ns : List ℕ) (first : Kind → Option ℕ)
    → AreNumbers pinned rows ns first (length rows) → ArePlaces ns
numbers_are_places pinned rows ns first all i within = by (pinned p.0.name) refl
  where
    each : length ns ≡ length rows
    each = all.each

    lt : i < length rows
    lt = omega (arith, within, each)

    p : (r : Row) × (slice_get rows i ≡ Some r)
    p = stands_at rows i lt

    there : slice_get ns i ≡ Some (slice_index ns i)
    there = slice_get-get_or ns i 0 within

    Places : ℕ → Type 0
    Places k = (k < length ns) × (slice_index ns k ≡ slice_index ns i)

    -- the first row of the kind has this number too
    free : pinned p.0.name ≡ false → Places (slice_index ns i)
    free e =
        let number : first (row_kind p.0) ≡ Some (slice_index ns i) = sym (all.of_free i p.0 lt p.1 e) ∙ there in
        let t = all.told (row_kind p.0) (slice_index ns i) number in
        let less = slice_get_within rows (slice_index ns i) t.0 t.1 in
        let again : slice_get ns (slice_index ns i) ≡ Some (slice_index ns i) =
        all.of_free (slice_index ns i) t.0 less t.1 t.2 ∙ ap first t.3 ∙ number in
        (omega (arith, less, each), get_or_from_slice_get ns (slice_index ns i) (slice_index ns i) 0 again)

    by : (b : Bool) → pinned p.0.name ≡ b → Places (slice_index ns i)
    by true e = subst Places (sym (once (slice_index ns i) i (sym there ∙ all.of_pinned i p.0 lt p.1 e))) (within, refl)
    by false e = free e

-- nothing is numbered at first
pub none_numbered : (pinned : ℕ → Bool) (rows : List Row) → AreNumbers pinned rows [] (first_in []) 0
none_numbered pinned rows = record {
  each = refl;
  of_pinned = λ i r l at p. absurd (omega (arith, l));
  of_free = λ i r l at p. absurd (omega (arith, l));
  told = λ k m e. absurd (cc);
}
