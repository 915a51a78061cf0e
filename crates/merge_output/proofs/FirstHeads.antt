-- The first of each class, as members are gone over.
use Rattle.std.proofs.Common.{◌≡◌, ◌≢◌, ℕ, zero, suc, ◌+◌, ◌<◌, Bool, true, false, cond, List, [], ◌∷◌, ◌++◌, Option, Some, None, length, map, take, get_or, set, refl, sym, ap, ◌∙◌, subst, add-one, arith, eqb-true, eq-eqb}
use Rattle.std.specs.Prelude.{◌==◌, slice_get, nat_le, nat_lt, MatchOption}
use Rattle.std.specs.List.{IsDistinct, AllByRecursion}
use Rattle.std.proofs.Math.Seq.{take-suc}
use Rattle.std.proofs.lemmas.List.{length-set, get_or-set_same, get_or-set_other}
use Rattle.value_equality.specs.Images.{head_of}
use Rattle.value_equality.specs.Tables.{Origin, start, split, Table, climbed, ancestor, ancestor_of, last_class, same_class, shares}
use Rattle.value_equality.specs.TableViews.{member_of, table_of}
use Rattle.value_equality.specs.declared.table.Table as code
use Rattle.merge_output.specs.steps.Rewriting.{members, first_of_class}
use Rattle.merge_output.specs.steps.Firsts.{own_class, or_name, class_of, first_in}

got_within : {A : Type 0} (xs : List A) (i : ℕ) (x : A) → slice_get xs i ≡ Some x → i < length xs
got_within [] i x e = absurd (cc)
got_within (y ∷ xs) zero x e = omega arith
got_within (y ∷ xs) (suc i) x e = let less = got_within xs i x e in omega (arith, less)

same_number : {a b : ℕ} → Some a ≡ Some b → a ≡ b
same_number e = cc

-- a class that is found is in the list
pub found_within : (classes : List Origin) (round n c a : ℕ) → ancestor classes round n c ≡ Some a
    → a < length classes
found_within classes round zero c a e = absurd (cc)
found_within classes round (suc n) c a e = by (slice_get classes c) refl e (λ p. found_within classes round n p a)
  where
    by : (o : Option Origin) → slice_get classes c ≡ o → climbed o round c (ancestor classes round n) ≡ Some a
        → ((p : ℕ) → ancestor classes round n p ≡ Some a → a < length classes) → a < length classes
    by None f k more = absurd (cc)
    by (Some start) f k more = subst (λ b. b < length classes) (same_number k) (got_within classes c start f)
    by (Some (split parent since)) f k more = when (nat_le since round) (nat_lt parent c) k
      where
        when : (d b : Bool) → cond d (Some c) (cond b (ancestor classes round n parent) None) ≡ Some a
            → a < length classes
        when true b k = subst (λ b. b < length classes) (same_number k) (got_within classes c (split parent since) f)
        when false true k = more parent k
        when false false k = absurd (cc)

abbrev pub named : List (ℕ × ℕ) → List ℕ
named ms = map (λ m. m.0) (map member_of ms)

pub named_length : (ms : List (ℕ × ℕ)) → length (named ms) ≡ length ms
named_length [] = refl
named_length (m ∷ ms) = ap suc (named_length ms)

pub named_at : (ms : List (ℕ × ℕ)) (i : ℕ) (d : ℕ × ℕ) → i < length ms → get_or (named ms) i 0 ≡ (get_or ms i d).0
named_at [] i d l = absurd (let n : ⊥ = omega (arith, l) in n)
named_at (m ∷ ms) zero d l = refl
named_at (m ∷ ms) (suc i) d l = named_at ms i d (omega (arith, l))

apart_at : (n : ℕ) (ms : List (ℕ × ℕ)) → AllByRecursion (λ y. (n == y) ≡ false) (named ms) → (i : ℕ) (d : ℕ × ℕ)
    → i < length ms → (n == (get_or ms i d).0) ≡ false
apart_at n [] a i d l = absurd (let k : ⊥ = omega (arith, l) in k)
apart_at n (m ∷ ms) a zero d l = a.0
apart_at n (m ∷ ms) a (suc i) d l = apart_at n ms a.1 i d (omega (arith, l))

-- a member has its own class
pub last_own : (ms : List (ℕ × ℕ)) → IsDistinct (◌==◌) (named ms) → (i : ℕ) (d : ℕ × ℕ) → i < length ms
    → last_class (map member_of ms) (get_or ms i d).0 ≡ Some (get_or ms i d).1
unfolding IsDistinct
last_own [] u i d l = absurd (let n : ⊥ = omega (arith, l) in n)
last_own (m ∷ ms) u zero d l =
    ap (λ (b : Bool). cond b (Some m.1) (last_class (map member_of ms) m.0)) (eq-eqb m.0 m.0 refl)
last_own (m ∷ ms) u (suc i) d l =
    let less : i < length ms = omega (arith, l) in
    ap (λ (b : Bool). cond b (Some m.1) (last_class (map member_of ms) (get_or ms i d).0))
    (apart_at m.0 ms u.0 i d less)
    ∙ last_own ms u.1 i d less

module _ (t : Table) where
  head_in : (ys : List ℕ) (x c : ℕ) → class_of t x ≡ Some c
      → head_of ys (shares t t.rounds) x ≡ or_name x (first_in t ys c)
  head_in [] x c e = refl
  head_in (y ∷ ys) x c e =
      ap (λ o. cond (same_class (class_of t y) o) y (head_of ys (shares t t.rounds) x)) e
      ∙ go (same_class (class_of t y) (Some c)) (head_in ys x c e)
    where
      go : (b : Bool) → head_of ys (shares t t.rounds) x ≡ or_name x (first_in t ys c)
          → cond b y (head_of ys (shares t t.rounds) x) ≡ or_name x (cond b (Some y) (first_in t ys c))
      go true h = refl
      go false h = h

  no_class : (o : Option ℕ) → same_class o None ≡ false
  no_class None = refl
  no_class (Some c) = refl

  -- what has no class is led nowhere
  pub head_out : (ys : List ℕ) (x : ℕ) → class_of t x ≡ None → head_of ys (shares t t.rounds) x ≡ x
  head_out [] x e = refl
  head_out (y ∷ ys) x e =
      ap (λ o. cond (same_class (class_of t y) o) y (head_of ys (shares t t.rounds) x)) e
      ∙ ap (λ (b : Bool). cond b y (head_of ys (shares t t.rounds) x)) (no_class (class_of t y))
      ∙ head_out ys x e

  own_same : (y c : ℕ) → class_of t y ≡ Some c → same_class (class_of t y) (Some c) ≡ true
  own_same y c e = ap (λ o. same_class o (Some c)) e ∙ eq-eqb c c refl

  first_joined : (xs zs : List ℕ) (y c : ℕ) → class_of t y ≡ Some c
      → first_in t (xs ++ y ∷ zs) c ≡ Some (or_name y (first_in t xs c))
  first_joined [] zs y c e = ap (λ (b : Bool). cond b (Some y) (first_in t zs c)) (own_same y c e)
  first_joined (x ∷ xs) zs y c e = go (same_class (class_of t x) (Some c)) (first_joined xs zs y c e)
    where
      go : (b : Bool) → first_in t (xs ++ y ∷ zs) c ≡ Some (or_name y (first_in t xs c))
          → cond b (Some x) (first_in t (xs ++ y ∷ zs) c) ≡ Some (or_name y (cond b (Some x) (first_in t xs c)))
      go true h = refl
      go false h = h

  first_other : (xs : List ℕ) (y c : ℕ) → same_class (class_of t y) (Some c) ≡ false
      → first_in t (xs ++ y ∷ []) c ≡ first_in t xs c
  first_other [] y c e = ap (λ (b : Bool). cond b (Some y) None) e
  first_other (x ∷ xs) y c e = ap (λ o. cond (same_class (class_of t x) (Some c)) (Some x) o) (first_other xs y c e)

  -- the first members so far, by class
  abbrev pub AreFirsts : List (Option ℕ) → List ℕ → Type 0
  AreFirsts firsts ys = (length firsts ≡ length t.classes)
      × ((c : ℕ) → c < length t.classes → get_or firsts c None ≡ first_in t ys c)

  -- what is done with a member that has this class
  abbrev pub Notes : ℕ → Option ℕ → List (Option ℕ) → List (Option ℕ) → ℕ → Type 0
  Notes y o firsts after head =
      MatchOption o ((head ≡ y) × (after ≡ firsts))
      (λ c. (head ≡ or_name y (get_or firsts c None)) × (after ≡ set firsts c (Some head)))

  class_within : (y c : ℕ) → class_of t y ≡ Some c → c < length t.classes
  class_within y c e = by (last_class t.members y) e
    where
      by : (o : Option ℕ) → ancestor_of t.classes t.rounds o ≡ Some c
          → c < length t.classes
      by None k = absurd (cc)
      by (Some d) k = found_within t.classes t.rounds (suc d) d c k

  pub noted : (xs zs : List ℕ) (y : ℕ) (o : Option ℕ) → class_of t y ≡ o → (firsts after : List (Option ℕ)) (head : ℕ)
      → AreFirsts firsts xs → Notes y o firsts after head
      → AreFirsts after (xs ++ y ∷ []) × (head ≡ head_of (xs ++ y ∷ zs) (shares t t.rounds) y)
  noted xs zs y None e firsts after head are n = (
    (
      ap length n.1 ∙ are.0,
      λ c l. ap (λ fs. get_or fs c None) n.1 ∙ are.1 c l
          ∙ sym (first_other xs y c (ap (λ o. same_class o (Some c)) e)),
    ),
    n.0 ∙ sym (head_out (xs ++ y ∷ zs) y e),
  )
  noted xs zs y (Some c) e firsts after head are n =
      let room : c < length firsts = omega (arith, class_within y c e, are.0) in
      let first : head ≡ or_name y (first_in t xs c) = n.0 ∙ ap (or_name y) (are.1 c (class_within y c e)) in (
        (
          ap length n.1 ∙ length-set firsts c (Some head) ∙ are.0,
          λ d l. by d l (c == d) refl room first,
        ),
        first ∙ last first,
      )
    where
      by : (d : ℕ) → d < length t.classes → (b : Bool) → (c == d) ≡ b → c < length firsts
          → head ≡ or_name y (first_in t xs c) → get_or after d None ≡ first_in t (xs ++ y ∷ []) d
      by d l true f room first =
          let same : c ≡ d = eqb-true c d f in
          ap (λ fs. get_or fs d None) n.1
          ∙ ap (λ k. get_or (set firsts c (Some head)) k None) (sym same)
          ∙ get_or-set_same firsts c (Some head) None room
          ∙ ap Some first
          ∙ sym (first_joined xs [] y c e)
          ∙ ap (λ k. first_in t (xs ++ y ∷ []) k) same
      by d l false f room first =
          ap (λ fs. get_or fs d None) n.1
          ∙ get_or-set_other firsts c d (Some head) None (λ k. differ (sym f ∙ eq-eqb c d (sym k)))
          ∙ are.1 d l
          ∙ sym (first_other xs y d (ap (λ o. same_class o (Some d)) e ∙ f))
        where
          differ : false ≡ true → ⊥
          differ k = absurd (cc)

      last : head ≡ or_name y (first_in t xs c) → or_name y (Some (or_name y (first_in t xs c)))
          ≡ head_of (xs ++ y ∷ zs) (shares t t.rounds) y
      last first = ap (or_name y) (sym (first_joined xs zs y c e)) ∙ sym (head_in (xs ++ y ∷ zs) y c e)

some_there : (fs : List (Option ℕ)) (c : ℕ) (o : Option ℕ) → c < length fs → o ≡ get_or fs c o → o ≡ get_or fs c None
some_there [] c o l e = absurd (let n : ⊥ = omega (arith, l) in n)
some_there (f ∷ fs) zero o l e = e
some_there (f ∷ fs) (suc c) o l e = some_there fs c o (omega (arith, l)) e

set_itself : (fs : List (Option ℕ)) (c : ℕ) → c < length fs → set fs c (get_or fs c None) ≡ fs
set_itself [] c l = absurd (let n : ⊥ = omega (arith, l) in n)
set_itself (f ∷ fs) zero l = refl
set_itself (f ∷ fs) (suc c) l = ap (λ k. f ∷ k) (set_itself fs c (omega (arith, l)))

-- a class that has a first member already
pub noted_there : (o : Option ℕ) (y c z : ℕ) (at : Option ℕ) (firsts : List (Option ℕ)) → o ≡ Some c
    → c < length firsts → at ≡ get_or firsts c at → at ≡ Some z
    → MatchOption o ((z ≡ y) × (firsts ≡ firsts))
    (λ c. (z ≡ or_name y (get_or firsts c None)) × (firsts ≡ set firsts c (Some z)))
noted_there None y c z at firsts e room got is = absurd (cc)
noted_there (Some d) y c z at firsts e room got is =
    let same : d ≡ c = same_number e in
    let here : get_or firsts c None ≡ Some z = sym (some_there firsts c at room got) ∙ is in
    let held : firsts ≡ set firsts c (Some z) = sym (ap (set firsts c) (sym here) ∙ set_itself firsts c room) in (
      ap (or_name y) (sym here) ∙ ap (λ k. or_name y (get_or firsts k None)) (sym same),
      held ∙ ap (λ k. set firsts k (Some z)) (sym same),
    )

taken : (ys : List ℕ) (i : ℕ) → i < length ys → take (i + 1) ys ≡ take i ys ++ get_or ys i 0 ∷ []
taken ys i l = rw add-one (take-suc ys i 0 l)

split_at : (ys : List ℕ) (i : ℕ) → i < length ys → (zs : List ℕ) × (ys ≡ take i ys ++ get_or ys i 0 ∷ zs)
split_at [] i l = absurd (let n : ⊥ = omega (arith, l) in n)
split_at (y ∷ ys) zero l = (ys, refl)
split_at (y ∷ ys) (suc i) l = let rest = split_at ys i (omega (arith, l)) in (rest.0, ap (λ zs. y ∷ zs) rest.1)

mapped_next : (f : ℕ → ℕ) (xs : List ℕ) (y : ℕ) → map f (xs ++ y ∷ []) ≡ map f xs ++ f y ∷ []
mapped_next f [] y = refl
mapped_next f (x ∷ xs) y = ap (λ l. f x ∷ l) (mapped_next f xs y)

-- in the loop over the members
pub head_next : (t : code.Table) (i : ℕ) (m : ℕ × ℕ) → IsDistinct (◌==◌) (members (table_of t))
    → i < length t.members.items → m ≡ get_or t.members.items i m
    → (firsts after : List (Option ℕ)) (head : ℕ)
    → AreFirsts (table_of t) firsts (take i (members (table_of t)))
    → Notes (table_of t) m.0 (own_class (table_of t) m.1) firsts after head
    → (heads more : List ℕ) → heads ≡ map (first_of_class (table_of t)) (take i (members (table_of t)))
    → more ≡ heads ++ head ∷ []
    → AreFirsts (table_of t) after (take (i + 1) (members (table_of t)))
    × (more ≡ map (first_of_class (table_of t)) (take (i + 1) (members (table_of t))))
head_next t i m distinct l got firsts after head are notes heads more so e =
    let s = table_of t in
    let ys = members s in
    let ms = t.members.items in
    let within : i < length ys = omega (arith, l, named_length ms) in
    let named : get_or ys i 0 ≡ m.0 = named_at ms i m l ∙ ap (λ (p : ℕ × ℕ). p.0) (sym got) in
    let own : class_of s m.0 ≡ own_class s m.1 =
    ap (ancestor_of s.classes s.rounds)
    (subst (λ (p : ℕ × ℕ). last_class (map member_of ms) p.0 ≡ Some p.1) (sym got) (last_own ms distinct i m l)) in
    let at = split_at ys i within in
    let step = noted s (take i ys) at.0 m.0 (own_class s m.1) own firsts after head are notes in
    let next : take (i + 1) ys ≡ take i ys ++ m.0 ∷ [] =
    taken ys i within ∙ ap (λ n. take i ys ++ n ∷ []) named in
    let whole : take i ys ++ m.0 ∷ at.0 ≡ ys = ap (λ n. take i ys ++ n ∷ at.0) (sym named) ∙ sym at.1 in
    let led : head ≡ first_of_class s m.0 = step.1 ∙ ap (λ l. head_of l (shares s s.rounds) m.0) whole in (
      subst (AreFirsts s after) (sym next) step.0,
      e ∙ (λ k. so k ++ led k ∷ []) ∙ sym (mapped_next (first_of_class s) (take i ys) m.0)
          ∙ ap (map (first_of_class s)) (sym next),
    )
