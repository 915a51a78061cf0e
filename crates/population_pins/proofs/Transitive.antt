-- Lists of supertypes that grow, type by type.
use Rattle.std.specs.Prelude.{◌≡◌, ℕ, ◌<◌, ◌≤◌, Bool, true, false, ◌||◌, List, [], ◌∷◌, ◌++◌, ◌+◌, All, get_or, length, map, take, eqb, ◌⊎◌, Result, Ok, Err, OnOk}
use Rattle.std.specs.List.{list_any}
use Rattle.std.proofs.Common.{nat_lt, refl, sym, ap, subst, ◌∙◌, inl, inr, arith, append_assoc, append-nil}
use Rattle.std.proofs.lemmas.List.{take_all}
use Rattle.std.proofs.lemmas.List.Folds.{list_any-append, list_any_at}
use Rattle.std.proofs.Math.Bool.{or-false}
use Rattle.std.proofs.Math.ListN.{get_or-eq_default}
use Rattle.std.proofs.lemmas.Bool.Decides.{nat_tests}
use Rattle.graphs.specs.Graphs.{Graph, IsGraph, Step, Chain, Leads, Reaches, has, next}
use Rattle.graphs.specs.Rounds.{added, AreMarks}
use Rattle.graphs.proofs.Found.{has-added, at-member, member-at, taken}
use Rattle.graphs.proofs.RowLists.{all-within}
use Rattle.graphs.proofs.Searching.{either, left-holds, right-holds}
use Rattle.population_forms.specs.steps.Marked.{is_above}
use Rattle.population_pins.specs.steps.SupertypeLists.{IsTransitive, AreMarked, AreClear, Lists, AreAmong, is_marked}
use Rattle.population_pins.specs.declared.supertype_marks.SupertypeMarks.{SupertypeMarks}

-- tests that hold alike are equal
alike : (a b : Bool) → (a ≡ true → b ≡ true) → (b ≡ true → a ≡ true) → a ≡ b
alike true b f g = sym (f refl)
alike false true f g = g refl
alike false false f g = refl

-- above one more type
pub above-joined : (g : Graph) (xs ys : List ℕ) (b : ℕ) → is_above g (xs ++ ys) b ≡ (is_above g xs b || is_above g ys b)
above-joined g xs ys b = list_any-append (λ i. has (next g i) b) xs ys

pub above-more : (g : Graph) (xs : List ℕ) (x b : ℕ) → is_above g (xs ++ x ∷ []) b ≡ (is_above g xs b || has (next g x) b)
above-more g xs x b =
    above-joined g xs (x ∷ []) b ∙ ap (λ c. is_above g xs b || c) (or-false (has (next g x) b))

-- supertypes of supertypes
pub above-onward : (g : Graph) → IsTransitive g → (xs : List ℕ) (a b : ℕ) → is_above g xs a ≡ true → Step g a b
    → is_above g xs b ≡ true
above-onward g h [] a b m e = absurd (cc)
above-onward g h (x ∷ xs) a b m e =
    by (either (has (next g x) a) (is_above g xs a) m) (λ k. above-onward g h xs a b k e)
  where
    by : (has (next g x) a ≡ true) ⊎ (is_above g xs a ≡ true) → (is_above g xs a ≡ true → is_above g xs b ≡ true)
        → (has (next g x) b || is_above g xs b) ≡ true
    by (inl k) more = left-holds (has (next g x) b) (is_above g xs b) (h.onward x a b k e)
    by (inr k) more = right-holds (has (next g x) b) (is_above g xs b) (more k)

-- a type that is listed has nothing to add
covered : (g : Graph) → IsTransitive g → (xs : List ℕ) (x b : ℕ) → is_above g xs x ≡ true
    → is_above g xs b ≡ is_above g (xs ++ x ∷ []) b
covered g h xs x b m =
    alike (is_above g xs b) (is_above g xs b || has (next g x) b) (left-holds (is_above g xs b) (has (next g x) b))
    (λ k. by (either (is_above g xs b) (has (next g x) b) k))
    ∙ sym (above-more g xs x b)
  where
    by : (is_above g xs b ≡ true) ⊎ (has (next g x) b ≡ true) → is_above g xs b ≡ true
    by (inl k) = k
    by (inr k) = above-onward g h xs x b m k

-- marks and lists
pub marked-is : (g : Graph) (m : SupertypeMarks) → AreMarked g m → (b : ℕ) → is_marked m b ≡ has m.numbers.items b
marked-is g m h b = by (nat_lt b (length m.marks.items)) refl
  where
    by : (c : Bool) → nat_lt b (length m.marks.items) ≡ c → is_marked m b ≡ has m.numbers.items b
    by true e = h.listed b (grind (arith, nat_tests))
    by false e =
        let past : length m.marks.items ≤ b = grind (arith, nat_tests) in
        let same = h.same in
        alike (is_marked m b) (has m.numbers.items b)
        (λ k. (let unset : is_marked m b ≡ false = get_or-eq_default m.marks.items false past in absurd (cc)))
        (λ k. (let lt = h.within b k in absurd (omega (arith, past, lt, same))))

pub skipped-lists : (g : Graph) → IsTransitive g → (m : SupertypeMarks) → AreMarked g m → (x : ℕ)
    → is_marked m x ≡ true → (xs : List ℕ) → Lists g xs m → Lists g (xs ++ x ∷ []) m
skipped-lists g h m marked x is xs lists b =
    lists b ∙ covered g h xs x b (sym (lists x) ∙ sym (marked-is g m marked x) ∙ is)

-- the row of a type is added
pub row-below : (g : Graph) → IsTransitive g → (x : ℕ) (row : List ℕ) (n : ℕ) → row ≡ next g x → n ≡ length g
    → All (λ y. y < n) row
row-below g h x row n is same k d lt =
    let member : has (next g x) (get_or row k d) ≡ true = subst (λ (r : List ℕ). has r (get_or row k d) ≡ true) is (at-member row k d lt) in
    let bound = h.within x (get_or row k d) member in
    omega (arith, bound, same)

grown-within : (g : Graph) → IsTransitive g → (x : ℕ) (row old new : List ℕ) → row ≡ next g x → new ≡ added old row
    → ((b : ℕ) → has old b ≡ true → b < length g) → (b : ℕ) → has new b ≡ true → b < length g
grown-within g h x row old new is grown before b e =
    by (either (has old b) (has row b) (sym (has-added old row b) ∙ ap (λ (ys : List ℕ). has ys b) (sym grown) ∙ e))
  where
    by : (has old b ≡ true) ⊎ (has row b ≡ true) → b < length g
    by (inl k) = before b k
    by (inr k) = h.within x b (ap (λ (r : List ℕ). has r b) (sym is) ∙ k)

pub grown-marked : {T E : Type 0} (r : Result T E) (g : Graph) → IsTransitive g → (x : ℕ) (row : List ℕ)
    (before after : List Bool) (old new : SupertypeMarks) → row ≡ next g x → AreMarked g old
    → before ≡ old.marks.items → new.marks.items ≡ after → length after ≡ length before
    → OnOk r (new.numbers.items ≡ added old.numbers.items row) → OnOk r (AreMarks after new.numbers.items)
    → OnOk r (AreMarked g new)
grown-marked (Ok t) g h x row before after old new is marked held now long grown listed = record {
  same = ap length now ∙ long ∙ ap length held ∙ marked.same;
  listed = subst (λ (l : List Bool). AreMarks l new.numbers.items) (sym now) listed;
  within = grown-within g h x row old.numbers.items new.numbers.items is grown marked.within;
}
grown-marked (Err e) g h x row before after old new is marked held now long grown listed = tt

pub grown-lists : (g : Graph) (x : ℕ) (row old new : List ℕ) → row ≡ next g x → new ≡ added old row → (xs : List ℕ)
    → ((b : ℕ) → has old b ≡ is_above g xs b) → (b : ℕ) → has new b ≡ is_above g (xs ++ x ∷ []) b
grown-lists g x row old new is grown xs lists b =
    ap (λ (ys : List ℕ). has ys b) grown ∙ has-added old row b
    ∙ ap (λ c. c || has row b) (lists b) ∙ ap (λ (r : List ℕ). is_above g xs b || has r b) is
    ∙ sym (above-more g xs x b)

-- a type of the list
pub one-among : (g : Graph) (types : List ℕ) (k x : ℕ) → k < length types → x ≡ get_or types k x → (b : ℕ)
    → is_above g ([] ++ x ∷ []) b ≡ true → is_above g types b ≡ true
one-among g types k x lt is b e =
    list_any_at (λ i. has (next g i) b) types k x lt
    (ap (λ i. has (next g i) b) (sym is) ∙ sym (or-false (has (next g x) b)) ∙ e)

-- all types after some that are among them
pub among-all : (g : Graph) (some types : List ℕ) (b : ℕ) → (is_above g some b ≡ true → is_above g types b ≡ true)
    → is_above g (some ++ types) b ≡ is_above g types b
among-all g some types b h =
    above-joined g some types b
    ∙ alike (is_above g some b || is_above g types b) (is_above g types b)
    (λ k. by (either (is_above g some b) (is_above g types b) k))
    (right-holds (is_above g some b) (is_above g types b))
  where
    by : (is_above g some b ≡ true) ⊎ (is_above g types b ≡ true) → is_above g types b ≡ true
    by (inl k) = h k
    by (inr k) = k

pub told-all : {T E : Type 0} (r : Result T E) (g : Graph) (types : List ℕ) (old new : SupertypeMarks)
    → AreAmong g types old → ((some : List ℕ) → Lists g some old → OnOk r (Lists g (some ++ types) new))
    → OnOk r (AreMarked g new) → OnOk r ((b : ℕ) → is_marked new b ≡ is_above g types b)
told-all (Ok t) g types old new h more marked =
    (λ b. marked-is g new marked b ∙ more h.some h.lists b ∙ among-all g h.some types b (h.among b))
told-all (Err e) g types old new h more marked = tt

-- no marks
pub none-listed : (g : Graph) (m : SupertypeMarks) → AreClear g m → Lists g [] m
none-listed g m clear b = ap (λ (l : List ℕ). has l b) clear.empty

pub listed-marks : (g : Graph) (marks : List Bool) (numbers : List ℕ) (m : SupertypeMarks) → AreMarked g m
    → marks ≡ m.marks.items → numbers ≡ m.numbers.items → AreMarks marks numbers
listed-marks g marks numbers m marked held are =
    subst (λ (l : List Bool). AreMarks l numbers) (sym held)
    (subst (λ (l : List ℕ). AreMarks m.marks.items l) (sym are) marked.listed)

pub listed-within : (g : Graph) (marks : List Bool) (numbers : List ℕ) (m : SupertypeMarks) → AreMarked g m
    → marks ≡ m.marks.items → numbers ≡ m.numbers.items → All (λ y. y < length marks) numbers
listed-within g marks numbers m marked held are = all-within numbers (length marks) below
  where
    below : (b : ℕ) → has numbers b ≡ true → b < length marks
    below b e =
        let lt = marked.within b (ap (λ (l : List ℕ). has l b) (sym are) ∙ e) in
        let long : length marks ≡ length m.marks.items = ap length held in
        let same = marked.same in
        omega (arith, lt, long, same)

pub cleared : (g : Graph) (before after : List Bool) (old new : SupertypeMarks) → AreMarked g old
    → before ≡ old.marks.items → new.marks.items ≡ after → length after ≡ length before → AreMarks after []
    → new.numbers.items ≡ [] → AreClear g new
cleared g before after old new marked held now long clean none = record {
  marked = record {
    same = ap length now ∙ long ∙ ap length held ∙ marked.same;
    listed = subst (λ (l : List Bool). AreMarks l new.numbers.items) (sym now)
        (subst (λ (l : List ℕ). AreMarks after l) (sym none) clean);
    within = λ b e. (let gone : has new.numbers.items b ≡ false = ap (λ (l : List ℕ). has l b) none in absurd (cc));
  };
  empty = none;
}

-- one type more of a list
pub one-more : (g : Graph) (some types : List ℕ) (k x : ℕ) (m : SupertypeMarks) → k < length types
    → x ≡ get_or types k 0 → Lists g ((some ++ take k types) ++ x ∷ []) m → Lists g (some ++ take (k + 1) types) m
one-more g some types k x m lt is =
    subst (λ (l : List ℕ). Lists g l m)
    (append_assoc some (take k types) (x ∷ [])
    ∙ ap (λ (y : ℕ). some ++ (take k types ++ y ∷ [])) is
    ∙ ap (λ (l : List ℕ). some ++ l) (sym (taken types k lt)))

pub none-yet : (g : Graph) (some types : List ℕ) (m : SupertypeMarks) → Lists g some m → Lists g (some ++ take 0 types) m
none-yet g some types m = subst (λ (l : List ℕ). Lists g l m) (sym (append-nil some))

pub all-now : (g : Graph) (some types : List ℕ) (k : ℕ) (m : SupertypeMarks) → length types ≤ k
    → Lists g (some ++ take k types) m → Lists g (some ++ types) m
all-now g some types k m past = subst (λ (l : List ℕ). Lists g (some ++ l) m) (take_all k types past)
