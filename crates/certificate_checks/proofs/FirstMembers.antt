-- The first of a class, found from behind, by class and by place.
use Rattle.std.proofs.Common.{◌≡◌, ◌≢◌, ℕ, zero, suc, ◌+◌, ◌<◌, ◌≤◌, Bool, true, false, cond, List, [], ◌∷◌, length, map, take, drop, get_or, set, slice_get, Some, None, refl, sym, ap, ◌∙◌, subst, arith, inl, inr, eqb-true, eq-eqb, get_or-set_same, get_or-set_other, add-one, ◌++◌}
use Rattle.value_equality.specs.TableViews.{member_of}
use Rattle.std.specs.Prelude.{◌==◌, unwrap_or}
use Rattle.std.proofs.lemmas.Bool.{false≢true}
use Rattle.std.proofs.lemmas.Option.{slice_get_within, get_or_from_slice_get}
use Rattle.std.specs.List.{IsDistinct, AllByRecursion}
use Rattle.value_equality.specs.Images.{head_of}
use Rattle.value_equality.specs.Rows.{Row, names, row_at}
use Rattle.value_equality.specs.Tables.{Origin, start, split, Table, HasMembers, shares, class_at, last_class, ancestor, climbed, same_class}
use Rattle.value_equality.specs.Standard.{IsWellFormed}
use Rattle.value_equality.specs.Tables.{ancestor_of}
use Rattle.std.specs.Prelude.{nat_le, nat_lt, Option}
use Rattle.std.proofs.lemmas.Bool.{le-leb}
use Rattle.value_equality.proofs.Lookup.{items_from, row_cases, row_name, distinct_rest}
use Rattle.certificate_checks.specs.steps.ComputedFirsts.{first_of, TellsFrom, firsts_of}
use Rattle.certificate_checks.specs.steps.Places.{by_place}

pub some_once : {A : Type 0} (x y : A) → Some x ≡ Some y → x ≡ y
some_once x y e = cc

after : (i k : ℕ) (b : Bool) → (i == k) ≡ b → k ≤ i → (i ≡ k → ⊥) → k + 1 ≤ i
after i k true e le never = absurd (never (eqb-true i k e))
after i k false e le never = let other : i ≢ k = never in omega (arith, le, other)

-- one member more, from behind
module _ (ms : List (ℕ × ℕ)) (firsts : List ℕ) (k : ℕ) (m : ℕ × ℕ) (at : slice_get ms k ≡ Some m)
    (lt : m.1 < length firsts) (t : TellsFrom ms firsts (k + 1)) (i : ℕ) (n : ℕ × ℕ) (le : k ≤ i)
    (e : slice_get ms i ≡ Some n) where
  here : first_of 0 (drop k ms) n.1 ≡ cond (m.1 == n.1) m.0 (first_of 0 (drop (k + 1) ms) n.1)
  here = ap (λ x. first_of 0 x n.1) (items_from ms k m at)

  not_same : (m.1 == n.1) ≡ false → i ≡ k → ⊥
  not_same f same =
      let q : n ≡ m = some_once n m (sym e ∙ ap (slice_get ms) same ∙ at) in
      false≢true (sym f ∙ eq-eqb m.1 n.1 (ap (λ (x : ℕ × ℕ). x.1) (sym q)))

  told : (b : Bool) → (m.1 == n.1) ≡ b → get_or (set firsts m.1 m.0) n.1 0 ≡ first_of 0 (drop k ms) n.1
  told true f =
      let same : m.1 ≡ n.1 = eqb-true m.1 n.1 f in
      ap (λ x. get_or (set firsts m.1 m.0) x 0) (sym same) ∙ get_or-set_same firsts m.1 m.0 0 lt
      ∙ sym (here ∙ ap (λ b. cond b m.0 (first_of 0 (drop (k + 1) ms) n.1)) f)
  told false f =
      let other : n.1 ≢ m.1 = (λ q. false≢true (sym f ∙ eq-eqb m.1 n.1 (sym q))) in
      get_or-set_other firsts m.1 n.1 m.0 0 other ∙ t i n (after i k (i == k) refl le (not_same f)) e
      ∙ sym (here ∙ ap (λ b. cond b m.0 (first_of 0 (drop (k + 1) ms) n.1)) f)

pub tells_more : (ms : List (ℕ × ℕ)) (firsts : List ℕ) (k : ℕ) (m : ℕ × ℕ) → slice_get ms k ≡ Some m → m.1 < length firsts
    → TellsFrom ms firsts (k + 1) → TellsFrom ms (set firsts m.1 m.0) k
tells_more ms firsts k m at lt t i n le e = told ms firsts k m at lt t i n le e (m.1 == n.1) refl

-- where a name leads
nowhere : (s : Row) (rows : List Row) (h : ℕ) (hs : List ℕ) (y : ℕ) (b : Bool) → (s.name == y) ≡ b
    → (row_at rows y ≡ None → by_place rows hs y ≡ y) → cond b (Some s) (row_at rows y) ≡ None
    → cond b h (by_place rows hs y) ≡ y
nowhere s rows h hs y true f next k = absurd (cc)
nowhere s rows h hs y false f next k = next k

pub by_place_nowhere : (rows : List Row) (hs : List ℕ) (y : ℕ) → row_at rows y ≡ None → by_place rows hs y ≡ y
by_place_nowhere [] hs y e = refl
by_place_nowhere (r ∷ rows) [] y e = refl
by_place_nowhere (r ∷ rows) (h ∷ hs) y e = nowhere r rows h hs y (r.name == y) refl (by_place_nowhere rows hs y) e

apart_from : (x : ℕ) (rows : List Row) (i : ℕ) (r : Row) → AllByRecursion (λ y. (x == y) ≡ false) (names rows)
    → slice_get rows i ≡ Some r → (x == r.name) ≡ false
apart_from x [] i r d e = absurd (cc)
apart_from x (s ∷ rows) zero r d e = ap (λ (q : Row). x == q.name) (sym (some_once s r e)) ∙ d.0
apart_from x (s ∷ rows) (suc i) r d e = apart_from x rows i r d.1 e

pub apart : (s : Row) (rows : List Row) (i : ℕ) (r : Row) → IsDistinct (◌==◌) (names (s ∷ rows)) → slice_get rows i ≡ Some r
    → (s.name == r.name) ≡ false
unfolding IsDistinct
apart s rows i r d e = apart_from s.name rows i r d.0 e

pub by_place_at : (rows : List Row) (hs : List ℕ) (i : ℕ) (r : Row) → IsDistinct (◌==◌) (names rows)
    → slice_get rows i ≡ Some r → by_place rows hs r.name ≡ unwrap_or (slice_get hs i) r.name
by_place_at [] hs i r d e = absurd (cc)
by_place_at (s ∷ rows) [] i r d e = refl
by_place_at (s ∷ rows) (h ∷ hs) zero r d e =
    let same : s ≡ r = some_once s r e in
    ap (λ b. cond b h (by_place rows hs r.name)) (eq-eqb s.name r.name (ap (λ (q : Row). q.name) same))
by_place_at (s ∷ rows) (h ∷ hs) (suc i) r d e =
    ap (λ b. cond b h (by_place rows hs r.name)) (apart s rows i r d e) ∙ by_place_at rows hs i r (distinct_rest s rows d) e

-- The entry for a name is that at the position where the code finds the row of the name.
pub by_place_found : (rows : List Row) (hs : List ℕ) (y i : ℕ) → IsDistinct (◌==◌) (names rows) → i < length rows
    → slice_get rows i ≡ row_at rows y → by_place rows hs y ≡ unwrap_or (slice_get hs i) y
by_place_found rows hs y i d lt e =
    let r = get_row rows i lt in
    let name : r.0.name ≡ y = row_name rows y r.0 (sym e ∙ r.1) in
    subst (λ x. by_place rows hs x ≡ unwrap_or (slice_get hs i) x) name (by_place_at rows hs i r.0 d r.1)
  where
    get_row : (rows : List Row) (i : ℕ) → i < length rows → (r : Row) × (slice_get rows i ≡ Some r)
    get_row [] i lt = absurd (omega (arith, lt))
    get_row (r ∷ rows) zero lt = (r, refl)
    get_row (r ∷ rows) (suc i) lt = get_row rows i (omega (arith, lt))

-- the place of a row
pub place_of : (rows : List Row) (y : ℕ) (r : Row) → row_at rows y ≡ Some r → (i : ℕ) × (slice_get rows i ≡ Some r)
place_of [] y r e = absurd (cc)
place_of (s ∷ rows) y r e = elim (row_cases s rows y r e) [
  | inl here ↦ (0, ap Some here.1)
  | inr there ↦ (let q = place_of rows y r there.1 in (suc q.0, q.1))
]

apart_as : (a b c d : ℕ) → a ≡ b → c ≡ d → (b == c) ≡ false → (a == d) ≡ false
apart_as a b c d e f h = ap (λ x. x == d) e ∙ ap (λ x. b == x) (sym f) ∙ h

-- the class of a member
pub last_of : (ms : List (ℕ × ℕ)) (rows : List Row) (i : ℕ) (m : ℕ × ℕ) → map (λ (n : ℕ × ℕ). n.0) ms ≡ names rows
    → IsDistinct (◌==◌) (names rows) → slice_get ms i ≡ Some m → last_class ms m.0 ≡ Some m.1
last_of [] rows i m e d at = absurd (cc)
last_of (n ∷ ms) [] i m e d at = absurd (cc)
last_of (n ∷ ms) (r ∷ rows) zero m e d at =
    let same : n ≡ m = some_once n m at in
    ap (λ b. cond b (Some n.1) (last_class ms m.0)) (eq-eqb n.0 m.0 (ap (λ (x : ℕ × ℕ). x.0) same))
    ∙ ap (λ (x : ℕ × ℕ). Some x.1) same
last_of (n ∷ ms) (r ∷ rows) (suc i) m e d at =
    let head : n.0 ≡ r.name = cc in
    let rest : map (λ (n : ℕ × ℕ). n.0) ms ≡ names rows = cc in
    let there = named_at ms rows i m rest at in
    let other : (n.0 == m.0) ≡ false = apart_as n.0 r.name there.0.name m.0 head there.2 (apart r rows i there.0 d there.1)
    in
    ap (λ b. cond b (Some n.1) (last_class ms m.0)) other ∙ last_of ms rows i m rest (distinct_rest r rows d) at
  where
    named_at : (ms : List (ℕ × ℕ)) (rows : List Row) (i : ℕ) (m : ℕ × ℕ) → map (λ (n : ℕ × ℕ). n.0) ms ≡ names rows
        → slice_get ms i ≡ Some m → (r : Row) × (slice_get rows i ≡ Some r) × (r.name ≡ m.0)
    named_at [] rows i m e at = absurd (cc)
    named_at (n ∷ ms) [] i m e at = absurd (cc)
    named_at (n ∷ ms) (r ∷ rows) zero m e at = (
      r,
      refl,
      (let same : n ≡ m = some_once n m at in
          let head : n.0 ≡ r.name = cc in sym head ∙ ap (λ (x : ℕ × ℕ). x.0) same),
    )
    named_at (n ∷ ms) (r ∷ rows) (suc i) m e at = named_at ms rows i m (cc) at

pub member_at : (ms : List (ℕ × ℕ)) (rows : List Row) (i : ℕ) (r : Row) → map (λ (n : ℕ × ℕ). n.0) ms ≡ names rows
    → slice_get rows i ≡ Some r → (m : ℕ × ℕ) × (slice_get ms i ≡ Some m) × (m.0 ≡ r.name)
member_at ms [] i r e at = absurd (cc)
member_at [] (s ∷ rows) i r e at = absurd (cc)
member_at (n ∷ ms) (s ∷ rows) zero r e at = (
  n,
  refl,
  (let same : s ≡ r = some_once s r at in
      let head : n.0 ≡ s.name = cc in head ∙ ap (λ (x : Row). x.name) same),
)
member_at (n ∷ ms) (s ∷ rows) (suc i) r e at = member_at ms rows i r (cc) at

pub last_none : (ms : List (ℕ × ℕ)) (rows : List Row) (y : ℕ) → map (λ (n : ℕ × ℕ). n.0) ms ≡ names rows
    → row_at rows y ≡ None → last_class ms y ≡ None
last_none [] rows y e at = refl
last_none (n ∷ ms) [] y e at = absurd (cc)
last_none (n ∷ ms) (r ∷ rows) y e at =
    let head : n.0 ≡ r.name = cc in
    let rest : map (λ (n : ℕ × ℕ). n.0) ms ≡ names rows = cc in
    by n.1 (n.0 == y) (λ k. last_none ms rows y rest k) (ap (λ x. cond (x == y) (Some r) (row_at rows y)) head ∙ at)
  where
    by : (c : ℕ) (b : Bool) → (row_at rows y ≡ None → last_class ms y ≡ None) → cond b (Some r) (row_at rows y) ≡ None
        → cond b (Some c) (last_class ms y) ≡ None
    by c true next k = absurd (cc)
    by c false next k = next k

-- at the last round the class of a member is the one that it names
begun : (t : Table) (c : ℕ) (o : Origin) → IsWellFormed t → slice_get t.classes c ≡ Some o
    → climbed (Some o) t.rounds c (ancestor t.classes t.rounds c) ≡ Some c
begun t c start w e = refl
begun t c (split p r) w e =
    let late : nat_le r t.rounds ≡ true = le-leb r t.rounds (w.parents c p r e).in_time in
    ap (λ b. cond b (Some c) (cond (nat_lt p c) (ancestor t.classes t.rounds c p) None)) late

pub last_begun : (t : Table) (c : ℕ) → IsWellFormed t → c < length t.classes
    → ancestor t.classes t.rounds (suc c) c ≡ Some c
last_begun t c w lt = by (slice_get t.classes c) refl
  where
    by : (o : Option Origin) → slice_get t.classes c ≡ o → ancestor t.classes t.rounds (suc c) c ≡ Some c
    by None e = absurd (let q = slice_get_some t.classes c lt in clash q.0 (sym e ∙ q.1))
      where
        clash : (o : Origin) → None ≡ Some o → ⊥
        clash o q = absurd (cc)

        slice_get_some : (xs : List Origin) (i : ℕ) → i < length xs → (o : Origin) × (slice_get xs i ≡ Some o)
        slice_get_some [] i l = absurd (omega (arith, l))
        slice_get_some (x ∷ xs) zero l = (x, refl)
        slice_get_some (x ∷ xs) (suc i) l = slice_get_some xs i (omega (arith, l))
    by (Some o) e = ap (λ x. climbed x t.rounds c (ancestor t.classes t.rounds c)) e ∙ begun t c o w e

-- the first of a class
first_found : (ms : List (ℕ × ℕ)) (c d e i : ℕ) (m : ℕ × ℕ) → slice_get ms i ≡ Some m → m.1 ≡ c
    → first_of d ms c ≡ first_of e ms c
first_found [] c d e i m at same = absurd (cc)
first_found (n ∷ ms) c d e zero m at same =
    let q : n ≡ m = some_once n m at in
    let test : (n.1 == c) ≡ true = eq-eqb n.1 c (ap (λ (x : ℕ × ℕ). x.1) q ∙ same) in
    ap (λ b. cond b n.0 (first_of d ms c)) test ∙ sym (ap (λ b. cond b n.0 (first_of e ms c)) test)
first_found (n ∷ ms) c d e (suc i) m at same = ap (cond (n.1 == c) n.0) (first_found ms c d e i m at same)

headed : (E : ℕ → ℕ → Bool) (x c : ℕ) (ms : List (ℕ × ℕ))
    → ((i : ℕ) (m : ℕ × ℕ) → slice_get ms i ≡ Some m → E m.0 x ≡ (m.1 == c))
    → head_of (map (λ (n : ℕ × ℕ). n.0) ms) E x ≡ first_of x ms c
headed E x c [] f = refl
headed E x c (m ∷ ms) f =
    ap (λ b. cond b m.0 (head_of (map (λ (n : ℕ × ℕ). n.0) ms) E x)) (f 0 m refl)
    ∙ ap (cond (m.1 == c) m.0) (headed E x c ms (λ i n e. f (suc i) n e))

unheaded : (E : ℕ → ℕ → Bool) (x : ℕ) → ((z : ℕ) → E z x ≡ false) → (ns : List ℕ) → head_of ns E x ≡ x
unheaded E x f [] = refl
unheaded E x f (n ∷ ns) = ap (λ b. cond b n (head_of ns E x)) (f n) ∙ unheaded E x f ns

with_none : (o : Option ℕ) → same_class o None ≡ false
with_none None = refl
with_none (Some c) = refl

pub get_map : {A B : Type 0} (f : A → B) (xs : List A) (i : ℕ) (x : A) → slice_get xs i ≡ Some x → slice_get (map f xs) i
    ≡ Some (f x)
get_map f [] i x e = absurd (cc)
get_map f (y ∷ xs) zero x e = let same : y ≡ x = some_once y x e in ap (λ z. Some (f z)) same
get_map f (y ∷ xs) (suc i) x e = get_map f xs i x e

module _ (P : List Row) (t : Table) (members : HasMembers P t) (well : IsWellFormed t)
    (distinct : IsDistinct (◌==◌) (names P)) where
  pub class_of : (i : ℕ) (m : ℕ × ℕ) → slice_get t.members i ≡ Some m → class_at t m.0 t.rounds ≡ Some m.1
  class_of i m e =
      let declared : m.1 < length t.classes = subst (λ (x : ℕ × ℕ). x.1 < length t.classes) (get_or_from_slice_get t.members
      i m m e) (well.declared i m (slice_get_within t.members i m e)) in
      ap (ancestor_of t.classes t.rounds) (last_of t.members P i m members distinct e) ∙ last_begun t m.1 well declared

  pub leads_to_first : (y : ℕ) → by_place P (firsts_of t.members) y ≡ head_of (names P) (shares t t.rounds) y
  leads_to_first y = by (row_at P y) refl
    where
      by : (o : Option Row) → row_at P y ≡ o → by_place P (firsts_of t.members) y ≡ head_of (names P) (shares t t.rounds) y
      by None e =
          let none : class_at t y t.rounds ≡ None = ap (ancestor_of t.classes t.rounds)
          (last_none t.members P y members e) in
          by_place_nowhere P (firsts_of t.members) y e
          ∙ sym (unheaded (shares t t.rounds) y (λ z. ap (same_class (class_at t z t.rounds)) none
          ∙ with_none (class_at t z t.rounds)) (names P))
      by (Some r) e =
          let i = place_of P y r e in
          let m = member_at t.members P i.0 r members i.1 in
          let name : r.name ≡ y = row_name P y r e in
          let c = m.0.1 in
          let class : class_at t y t.rounds ≡ Some c =
          ap (λ x. class_at t x t.rounds) (sym (m.2 ∙ name)) ∙ class_of i.0 m.0 m.1 in
          let told : by_place P (firsts_of t.members) y ≡ first_of 0 t.members c =
          subst (λ x. by_place P (firsts_of t.members) x ≡ first_of 0 t.members c) name
          (by_place_at P (firsts_of t.members) i.0 r distinct i.1 ∙ ap (λ o. unwrap_or o r.name)
          (get_map (λ (n : ℕ × ℕ). first_of 0 t.members n.1) t.members i.0 m.0 m.1)) in
          told ∙ first_found t.members c 0 y i.0 m.0 m.1 refl
          ∙ sym (ap (λ ns. head_of ns (shares t t.rounds) y) (sym members) ∙ headed (shares t t.rounds) y c t.members
          (λ j n k. (λ l. same_class (class_of j n k l) (class l))))

  -- The first members that the program computes lead each name to the first of its class.
  pub leads_to_firsts : (fs : List ℕ) → fs ≡ firsts_of t.members → by_place P fs ≡ head_of (names P) (shares t t.rounds)
  leads_to_firsts fs is = λ i y. (ap (λ x. by_place P x y) is ∙ leads_to_first y) i

-- one more
pub firsts_next : (ms : List (ℕ × ℕ)) (firsts : List ℕ) (i : ℕ) (m : ℕ × ℕ) → slice_get ms i ≡ Some m → TellsFrom ms firsts 0
    → map (λ (n : ℕ × ℕ). first_of 0 ms n.1) (take (i + 1) ms)
    ≡ map (λ (n : ℕ × ℕ). first_of 0 ms n.1) (take i ms) ++ (get_or firsts m.1 0 ∷ [])
firsts_next ms firsts i m at t = rw add-one (grown ms i at ∙ ap (λ x. map (λ (n : ℕ × ℕ). first_of 0 ms n.1) (take i ms)
    ++ (x ∷ [])) (sym (t i m (omega arith) at)))
  where
    grown : (ns : List (ℕ × ℕ)) (i : ℕ) → slice_get ns i ≡ Some m → map (λ (n : ℕ × ℕ). first_of 0 ms n.1) (take (suc i) ns)
        ≡ map (λ (n : ℕ × ℕ). first_of 0 ms n.1) (take i ns) ++ (first_of 0 ms m.1 ∷ [])
    grown [] i e = absurd (cc)
    grown (n ∷ ns) zero e = ap (λ (x : ℕ × ℕ). first_of 0 ms x.1 ∷ []) (some_once n m e)
    grown (n ∷ ns) (suc i) e = ap (λ l. first_of 0 ms n.1 ∷ l) (grown ns i e)

pub map_members : (ms : List (ℕ × ℕ)) → map member_of ms ≡ ms
map_members [] = refl
map_members (m ∷ ms) = ap (λ l. m ∷ l) (map_members ms)

-- the row of a place stands under its name
pub row_here_at : (rows : List Row) (i : ℕ) (r : Row) → IsDistinct (◌==◌) (names rows) → slice_get rows i ≡ Some r
    → row_at rows r.name ≡ Some r
row_here_at [] i r d e = absurd (cc)
row_here_at (s ∷ rows) zero r d e =
    let same : s ≡ r = some_once s r e in
    ap (λ b. cond b (Some s) (row_at rows r.name)) (eq-eqb s.name r.name (ap (λ (q : Row). q.name) same)) ∙ ap Some same
row_here_at (s ∷ rows) (suc i) r d e =
    ap (λ b. cond b (Some s) (row_at rows r.name)) (apart s rows i r d e) ∙ row_here_at rows i r (distinct_rest s rows d) e
