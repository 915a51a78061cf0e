-- Each round of a refinement has more classes than the one before.
use Rattle.std.proofs.Common.{◌≡◌, ◌≤◌, ◌<◌, ℕ, zero, suc, Bool, true, false, cond, List, [], ◌∷◌, Option, Some, None, refl, sym, ◌∙◌, ap, subst, inl, inr, eqb-true, eq-eqb, length, arith, add-one}
use Rattle.std.specs.Prelude.{◌==◌}
use Rattle.value_equality.specs.Rows.{Row, names, IsName}
use Rattle.value_equality.specs.Images.{head_of}
use Rattle.value_equality.specs.Tables.{Table, shares, same_class, class_at, HasMembers}
use Rattle.value_equality.specs.Laws.{RoundsAreFew}
use Rattle.value_equality.proofs.Lookup.{row_cases, name_here, name_later}
use Rattle.value_equality.proofs.Heads.{head_found, one_head, head_stays}
use Rattle.value_equality.proofs.Rounds.{own, sharer_named, refinement_grounded}

-- how many rows have a name that passes
pub count : (ℕ → Bool) → List Row → ℕ
count p [] = 0
count p (r ∷ rows) = cond (p r.name) (suc (count p rows)) (count p rows)

pub count_length : (p : ℕ → Bool) (rows : List Row) → count p rows ≤ length rows
unfolding count
count_length p [] = omega arith
count_length p (r ∷ rows) = go (p r.name) (count_length p rows)
  where
    go : (b : Bool) → count p rows ≤ length rows → cond b (suc (count p rows)) (count p rows) ≤ suc (length rows)
    go true h = omega arith
    go false h = omega arith

cond_le : (b c : Bool) (m n : ℕ) → (b ≡ true → c ≡ true) → m ≤ n → cond b (suc m) m ≤ cond c (suc n) n
cond_le true true m n f h = omega arith
cond_le true false m n f h = absurd (let e : false ≡ true = f refl in cc)
cond_le false true m n f h = omega arith
cond_le false false m n f h = h

cond_lt : (b c : Bool) (m n : ℕ) → b ≡ false → c ≡ true → m ≤ n → suc (cond b (suc m) m) ≤ cond c (suc n) n
cond_lt true c m n e f h = absurd (cc)
cond_lt false true m n e f h = omega arith
cond_lt false false m n e f h = absurd (cc)

count_le : (p q : ℕ → Bool) (rows : List Row) → ((y : ℕ) → IsName rows y → p y ≡ true → q y ≡ true)
    → count p rows ≤ count q rows
unfolding count
count_le p q [] f = omega arith
count_le p q (r ∷ rows) f = cond_le (p r.name) (q r.name) (count p rows) (count q rows) (f r.name (name_here r rows))
    (count_le p q rows (λ y n. f y (name_later r rows y n)))

count_lt : (p q : ℕ → Bool) (rows : List Row) → ((y : ℕ) → IsName rows y → p y ≡ true → q y ≡ true) → (w : ℕ)
    → IsName rows w → q w ≡ true → p w ≡ false → suc (count p rows) ≤ count q rows
unfolding count
count_lt p q [] f w n h k = absurd (let e = n.1 in cc)
count_lt p q (r ∷ rows) f w n h k =
    elim (row_cases r rows w n.0 n.1) [
      | inl here ↦ cond_lt (p r.name) (q r.name) (count p rows) (count q rows) (ap p here.0 ∙ k) (ap q here.0 ∙ h)
          (count_le p q rows (λ y m. f y (name_later r rows y m)))
      | inr there ↦ more (p r.name) (q r.name) (f r.name (name_here r rows))
          (count_lt p q rows (λ y m. f y (name_later r rows y m)) w (n.0, there.1) h k)
    ]
  where
    more : (b c : Bool) → (b ≡ true → c ≡ true) → suc (count p rows) ≤ count q rows
        → suc (cond b (suc (count p rows)) (count p rows)) ≤ cond c (suc (count q rows)) (count q rows)
    more true true g i = omega arith
    more true false g i = absurd (let e : false ≡ true = g refl in cc)
    more false true g i = omega arith
    more false false g i = i

-- partitions by rounds
pub record ArePartitions (P : List Row) (E : ℕ → ℕ → ℕ → Bool) : Type 0 where
  pub symmetric : (r x z : ℕ) → E r x z ≡ true → E r z x ≡ true
  pub transitive : (r x y z : ℕ) → E r x y ≡ true → E r y z ≡ true → E r x z ≡ true
  pub named : (r x z : ℕ) → E r x z ≡ true → IsName P x

module _ (P : List Row) (E : ℕ → ℕ → ℕ → Bool) (by : ArePartitions P E) where
  abbrev Falls : ℕ → Type 0
  Falls r = (x z : ℕ) → E (suc r) x z ≡ true → E r x z ≡ true

  abbrev head : ℕ → ℕ → ℕ
  head r = head_of (names P) (E r)

  abbrev is_head : ℕ → ℕ → Bool
  is_head r y = (head r y == y)

  top : (r x : ℕ) → E r x x ≡ true → (E r (head r x) x ≡ true) × IsName P (head r x)
  top r x h = head_found (E r) P x x (by.named r x x h) h

  same_head : (r x z : ℕ) → E r x z ≡ true → head r x ≡ head r z
  same_head r x z h = one_head P (E r) (by.symmetric r) (by.transitive r) x z (by.named r x z h) h

  top_is_head : (r x : ℕ) → E r x x ≡ true → is_head r (head r x) ≡ true
  top_is_head r x h = eq-eqb (head r (head r x)) (head r x) (same_head r (head r x) x (top r x h).0)

  -- names of one class, whose firsts at the next round are firsts now, don't part
  stay_together : (r : ℕ) → Falls r → (x z : ℕ) → E r x z ≡ true → E (suc r) x x ≡ true → E (suc r) z z ≡ true
      → is_head r (head (suc r) x) ≡ true → is_head r (head (suc r) z) ≡ true → E (suc r) x z ≡ true
  stay_together r falls x z h sx sz e f =
      let u : ℕ = head (suc r) x in
      let v : ℕ = head (suc r) z in
      let ux : E (suc r) u x ≡ true = (top (suc r) x sx).0 in
      let vz : E (suc r) v z ≡ true = (top (suc r) z sz).0 in
      let uv : E r u v ≡ true = by.transitive r u x v (falls u x ux)
      (by.transitive r x z v h (by.symmetric r v z (falls v z vz))) in
      let one : u ≡ v = sym (eqb-true (head r u) u e) ∙ same_head r u v uv ∙ eqb-true (head r v) v f in
      by.transitive (suc r) x u z (by.symmetric (suc r) u x ux) (subst (λ c. E (suc r) c z ≡ true) (sym one) vz)

  -- of two names that part, the first of one's class was none before
  new_head : (r : ℕ) → Falls r → (x z : ℕ) → E r x z ≡ true → E (suc r) x z ≡ false → E (suc r) x x ≡ true
      → E (suc r) z z ≡ true → (w : ℕ) × IsName P w × (is_head (suc r) w ≡ true) × (is_head r w ≡ false)
  new_head r falls x z h k sx sz =
      go (is_head r (head (suc r) x)) (is_head r (head (suc r) z)) refl refl (stay_together r falls x z h sx sz)
      (top (suc r) x sx).1 (top (suc r) z sz).1 (top_is_head (suc r) x sx) (top_is_head (suc r) z sz)
    where
      go : (c d : Bool) → is_head r (head (suc r) x) ≡ c → is_head r (head (suc r) z) ≡ d
          → (is_head r (head (suc r) x) ≡ true → is_head r (head (suc r) z) ≡ true → E (suc r) x z ≡ true)
          → IsName P (head (suc r) x) → IsName P (head (suc r) z) → is_head (suc r) (head (suc r) x) ≡ true
          → is_head (suc r) (head (suc r) z) ≡ true → (w : ℕ) × IsName P w × (is_head (suc r) w ≡ true)
          × (is_head r w ≡ false)
      go false d e f join nx nz hx hz = (head (suc r) x, nx, hx, e)
      go true false e f join nx nz hx hz = (head (suc r) z, nz, hz, f)
      go true true e f join nx nz hx hz = absurd (let yes = join e f in cc)

  -- each round has more heads than there are rounds before it
  pub many_heads : (last : ℕ) → ((r : ℕ) → r < last → Falls r) → ((r : ℕ) → r ≤ last → (x : ℕ) → IsName P x
      → E r x x ≡ true) → ((r : ℕ) → r < last → (x : ℕ) × (z : ℕ) × (E r x z ≡ true) × (E (suc r) x z ≡ false))
      → (r : ℕ) → r ≤ last → r ≤ count (is_head r) P
  many_heads last falls self parts zero h = omega arith
  many_heads last falls self parts (suc r) h =
      let less : r < last = omega arith in
      let before : r ≤ count (is_head r) P = many_heads last falls self parts r (omega arith) in
      let parted = parts r less in
      let nx = by.named r parted.0 parted.1 parted.2 in
      let nz = by.named r parted.1 parted.0 (by.symmetric r parted.0 parted.1 parted.2) in
      let new = new_head r (falls r less) parted.0 parted.1 parted.2 parted.3 (self (suc r) h parted.0 nx)
      (self (suc r) h parted.1 nz) in
      let stays : (y : ℕ) → IsName P y → is_head r y ≡ true → is_head (suc r) y ≡ true =
      λ y n e. eq-eqb (head (suc r) y) y (head_stays (E r) (E (suc r)) (falls r less) (names P) y (self (suc r) h y n)
      (eqb-true (head r y) y e)) in
      let more = count_lt (is_head r) (is_head (suc r)) P stays new.0 new.1 new.2 new.3 in
      omega (arith, before, more)

pub same_class_back : (a b : Option ℕ) → same_class a b ≡ true → same_class b a ≡ true
same_class_back None b h = absurd (cc)
same_class_back (Some c) None h = absurd (cc)
same_class_back (Some c) (Some d) h = eq-eqb d c (sym (eqb-true c d h))

same_class_through : (a b c : Option ℕ) → same_class a b ≡ true → same_class b c ≡ true → same_class a c ≡ true
same_class_through None b c h k = absurd (cc)
same_class_through (Some a) None c h k = absurd (cc)
same_class_through (Some a) (Some b) None h k = absurd (cc)
same_class_through (Some a) (Some b) (Some c) h k = eq-eqb a c (eqb-true a b h ∙ eqb-true b c k)

pub table_partitions : (P : List Row) (t : Table) → HasMembers P t → ArePartitions P (shares t)
table_partitions P t members = record {
  symmetric = λ r x z. same_class_back (class_at t x r) (class_at t z r);
  transitive = λ r x y z. same_class_through (class_at t x r) (class_at t y r) (class_at t z r);
  named = sharer_named P t members;
}

pub rounds_are_few : RoundsAreFew
rounds_are_few P pinned t population standard =
    let refines = standard.refines in
    let many = many_heads P (shares t) (table_partitions P t standard.members) t.rounds
    (λ r less x z h. ((refines.next r x z less).0 (subst (λ n. shares t n x z ≡ true) (sym (add-one r)) h)).0)
    (own P pinned (shares t) t.rounds (refinement_grounded P pinned (shares t) t.rounds refines) population)
    (λ r less. let p = refines.parts r less in (p.0, p.1, p.2, subst (λ n. shares t n p.0 p.1 ≡ false) (add-one r) p.3))
    t.rounds (omega arith) in
    omega (arith, many, count_length (λ y. head_of (names P) (shares t t.rounds) y == y) P)
