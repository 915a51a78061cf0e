-- Lists that are gathered along an order.
use Rattle.std.proofs.Common.{◌≡◌, ℕ, zero, suc, ◌+◌, ◌<◌, ◌∙◌, sym, Bool, true, false, cond, ◌||◌, ◌⊎◌, inl, inr, take, eqb, map, List, [], ◌∷◌, ◌++◌, get_or, length, drop, set, refl, ap, subst, arith, append_assoc}
use Rattle.std.specs.List.{concat}
use Rattle.std.proofs.lemmas.Bool.Decides.{nat_tests}
use Rattle.std.proofs.lemmas.List.{length-map}
use Rattle.std.proofs.lemmas.List.Folds.{list_any-append}
use Rattle.graphs.specs.Graphs.{Graph, has, next, Step, StaysBelow}
use Rattle.graphs.specs.Orders.{Follows, IsOrder, IsElsewhere, Solves}
use Rattle.graphs.specs.Rounds.{added}
use Rattle.graphs.proofs.Found.{has-more, has-added, at-member, taken}
use Rattle.graphs.proofs.RowLists.{next-written, next-unwritten}
use Rattle.graphs.proofs.Searching.{either}
use Rattle.graphs.proofs.Ordering.{same-values}

pub added-append : (xs ys zs : List ℕ) → added (added xs ys) zs ≡ added xs (ys ++ zs)
added-append xs [] zs = refl
added-append xs (y ∷ ys) zs = added-append (cond (has xs y) xs (xs ++ y ∷ [])) ys zs

pub drop-next : (xs : List ℕ) (i d : ℕ) → i < length xs → drop i xs ≡ get_or xs i d ∷ drop (i + 1) xs
drop-next [] i d lt = absurd (omega arith)
drop-next (x ∷ xs) zero d lt = refl
drop-next (x ∷ xs) (suc i) d lt =
    drop-next xs i d (omega arith)
    ∙ ap (λ (k : ℕ). get_or xs i d ∷ drop k (x ∷ xs)) (let e : suc (i + 1) ≡ suc i + 1 = omega arith in e)

pub gather-next : (t : Graph) (after own found new row all : List ℕ) (i d : ℕ) → i < length after
    → row ≡ next t (get_or after i d) → new ≡ added found row
    → added found (concat (map (next t) (drop i after)) ++ own) ≡ all
    → added new (concat (map (next t) (drop (i + 1) after)) ++ own) ≡ all
gather-next t after own found new row all i d lt at is h =
    let rest = concat (map (next t) (drop (i + 1) after)) in
    let split : concat (map (next t) (drop i after)) ≡ row ++ rest =
    ap (λ (bs : List ℕ). concat (map (next t) bs)) (drop-next after i d lt) ∙ ap (λ (r : List ℕ). r ++ rest) (sym at) in
    let one : added new (rest ++ own) ≡ added (added found row) (rest ++ own) =
    ap (λ (xs : List ℕ). added xs (rest ++ own)) is in
    one ∙ added-append found row (rest ++ own) ∙ ap (added found) (sym (append_assoc row rest own))
    ∙ ap (λ (r : List ℕ). added found (r ++ own)) (sym split) ∙ h

turn : (p q r : Bool) → ((q || p) || r) ≡ true → (p || (q || r)) ≡ true
turn true q r e = refl
turn false true r e = refl
turn false false r e = e

left-of : (p q : Bool) → p ≡ true → (p || q) ≡ true
left-of true q e = refl
left-of false q e = absurd (cc)

-- what stands before an index leads to what stands before it
pub follows-at : (g : Graph) (seen xs : List ℕ) (i d : ℕ) → Follows g seen xs → i < length xs → (c : ℕ)
    → Step g (get_or xs i d) c → (has seen c || has (take i xs) c) ≡ true
follows-at g seen [] i d f lt c e = absurd (omega arith)
follows-at g seen (x ∷ xs) zero d f lt c e = left-of (has seen c) false (f.0 c e)
follows-at g seen (x ∷ xs) (suc i) d f lt c e =
    turn (has seen c) (eqb c x) (has (take i xs) c) (follows-at g (x ∷ seen) xs i d f.1 (omega arith) c e)

pub follows-before : (g : Graph) (seen xs : List ℕ) (i b : ℕ) → Follows g seen xs → has (take i xs) b ≡ true → (c : ℕ)
    → Step g b c → (has seen c || has (take i xs) c) ≡ true
follows-before g seen [] zero b f m c e = absurd (cc)
follows-before g seen [] (suc i) b f m c e = absurd (cc)
follows-before g seen (x ∷ xs) zero b f m c e = absurd (cc)
follows-before g seen (x ∷ xs) (suc i) b f m c e =
    which (either (eqb b x) (has (take i xs) b) m) (follows-before g (x ∷ seen) xs i b f.1)
  where
    which : (eqb b x ≡ true)
        ⊎ (has (take i xs) b ≡ true)
        → (has (take i xs) b ≡ true → (c : ℕ) → Step g b c → ((eqb c x || has seen c) || has (take i xs) c) ≡ true)
        → (has seen c || (eqb c x || has (take i xs) c)) ≡ true
    which (inl here) later = let same : b ≡ x = grind (arith, nat_tests) in
        left-of (has seen c) (eqb c x || has (take i xs) c) (f.0 c (subst (λ (y : ℕ). Step g y c) same e))
    which (inr there) later = turn (has seen c) (eqb c x) (has (take i xs) c) (later there c e)

-- one vertex more is done
pub solves-next : {X : Type 0} (g : Graph) (F : ℕ → List X → X) (t u : ℕ → X) (order : List ℕ) (i x : ℕ)
    → Follows g [] order → i < length order → x ≡ get_or order i 0
    → Solves g (take i order) F t → u x ≡ F x (map t (next g x)) → ((b : ℕ) → (b ≡ x → ⊥) → u b ≡ t b)
    → Solves g (take (i + 1) order) F u
solves-next {X} g F t u order i x f lt at done made others b m =
    which (either (has (take i order) b) (eqb b x)
    (sym (has-more (take i order) x b) ∙ ap (λ (xs : List ℕ). has xs b) (sym more) ∙ m))
  where
    more : take (i + 1) order ≡ take i order ++ x ∷ []
    more = taken order i lt ∙ ap (λ (y : ℕ). take i order ++ y ∷ []) (sym at)

    stays : (c : ℕ) → has (take i order) c ≡ true → u c ≡ t c
    stays c k = split (eqb c x) refl
      where
        split : (e : Bool) → eqb c x ≡ e → u c ≡ t c
        split true is = let same : c ≡ x = grind (arith, nat_tests) in
            ap u same ∙ made ∙ sym (done x (subst (λ (y : ℕ). has (take i order) y ≡ true) same k)) ∙ sym (ap t same)
        split false is = others c
            (λ (same : c ≡ x). (let no : eqb c x ≡ true = grind (arith, nat_tests) in absurd (cc)))

    anew : (y : ℕ) → ((c : ℕ) → Step g y c → has (take i order) c ≡ true)
        → F y (map t (next g y)) ≡ F y (map u (next g y))
    anew y h = ap (F y) (same-values t u (next g y) (λ c k. sym (stays c (h c k))))

    which : (has (take i order) b ≡ true) ⊎ (eqb b x ≡ true) → u b ≡ F b (map u (next g b))
    which (inl old) = stays b old ∙ done b old ∙ anew b (λ c e. follows-before g [] order i b f old c e)
    which (inr new) =
        let same : b ≡ x = grind (arith, nat_tests) in
        subst (λ (y : ℕ). u y ≡ F y (map u (next g y))) (sym same)
        (made ∙ anew x (λ c e. follows-at g [] order i 0 f lt c (subst (λ (y : ℕ). Step g y c) at e)))

-- one vertex more is done, and the others have what they had
pub elsewhere-next : {X : Type 0} (t u : ℕ → X) (d : X) (order : List ℕ) (i x : ℕ) → i < length order
    → x ≡ get_or order i 0 → IsElsewhere (take i order) d t → ((b : ℕ) → (b ≡ x → ⊥) → u b ≡ t b)
    → IsElsewhere (take (i + 1) order) d u
elsewhere-next t u d order i x lt at bare others b out =
    others b (λ (same : b ≡ x). (let here : eqb b x ≡ true = grind (arith, nat_tests) in absurd (none-of here)))
    ∙ bare b (left-out (has (take i order) b) (eqb b x) split)
  where
    more : take (i + 1) order ≡ take i order ++ x ∷ []
    more = taken order i lt ∙ ap (λ (y : ℕ). take i order ++ y ∷ []) (sym at)

    split : (has (take i order) b || eqb b x) ≡ false
    split = sym (has-more (take i order) x b) ∙ ap (λ (xs : List ℕ). has xs b) (sym more) ∙ out

    left-out : (p q : Bool) → (p || q) ≡ false → p ≡ false
    left-out true q e = absurd (cc)
    left-out false q e = refl

    right-out : (p q : Bool) → (p || q) ≡ false → q ≡ false
    right-out true q e = absurd (cc)
    right-out false q e = e

    none-of : eqb b x ≡ true → ⊥
    none-of here = let other = right-out (has (take i order) b) (eqb b x) split in cc

-- what is gathered is of where it is gathered from
pub has-concat : (n : ℕ) (t : Graph) (bs : List ℕ) → StaysBelow n t → (b : ℕ) → has (concat (map (next t) bs)) b ≡ true
    → b < n
has-concat n t [] h b m = absurd (cc)
has-concat n t (y ∷ ys) h b m =
    which (either (has (next t y) b) (has (concat (map (next t) ys)) b)
    (sym (list_any-append (eqb b) (next t y) (concat (map (next t) ys))) ∙ m)) (has-concat n t ys h b)
  where
    which : (has (next t y) b ≡ true) ⊎ (has (concat (map (next t) ys)) b ≡ true)
        → (has (concat (map (next t) ys)) b ≡ true → b < n) → b < n
    which (inl here) later = h y b here
    which (inr there) later = later there

pub order-inside : {X : Type 0} (f : X → List ℕ) (edges : List X) (order : List ℕ) (i : ℕ) → IsOrder (map f edges) order
    → i < length order → get_or order i 0 < length edges
order-inside f edges order i h lt =
    let bound = h.within (get_or order i 0) (at-member order i 0 lt) in
    let long : length (map f edges) ≡ length edges = length-map edges f in
    omega (arith, bound, long)

-- a list with one item changed
pub set-here : {X : Type 0} (xs : List X) (a : ℕ) (x d : X) → a < length xs → get_or (set xs a x) a d ≡ x
set-here [] a x d lt = absurd (omega arith)
set-here (y ∷ ys) zero x d lt = refl
set-here (y ∷ ys) (suc a) x d lt = set-here ys a x d (omega arith)

pub set-elsewhere : {X : Type 0} (xs : List X) (a : ℕ) (x : X) (b : ℕ) (d : X) → (b ≡ a → ⊥)
    → get_or (set xs a x) b d ≡ get_or xs b d
set-elsewhere [] a x b d ne = refl
set-elsewhere (y ∷ ys) zero x zero d ne = absurd (ne refl)
set-elsewhere (y ∷ ys) zero x (suc b) d ne = refl
set-elsewhere (y ∷ ys) (suc a) x zero d ne = refl
set-elsewhere (y ∷ ys) (suc a) x (suc b) d ne = set-elsewhere ys a x b d (λ (e : b ≡ a). ne (ap suc e))

pub joined-so : {X : Type 0} (f : X → List ℕ) (lent table : List X) (row after bs mine own : List ℕ)
    → row ≡ added [] (concat (map (next (map f lent)) after) ++ mine) → lent ≡ table → after ≡ bs → mine ≡ own
    → row ≡ added [] (concat (map (next (map f table)) bs) ++ own)
joined-so {X} f lent table row after bs mine own is same edge other =
    is ∙ ap (λ (ts : List X). added [] (concat (map (next (map f ts)) after) ++ mine)) same
    ∙ ap (λ (r : List ℕ). added [] (concat (map (next (map f table)) r) ++ mine)) edge
    ∙ ap (λ (r : List ℕ). added [] (concat (map (next (map f table)) bs) ++ r)) other

-- the table stays below the bound
pub joined-below : {X : Type 0} (f : X → List ℕ) (table own : List X) (x : ℕ) (v : X) (bs : List ℕ) (k m n : ℕ)
    → StaysBelow m (map f table) → StaysBelow k (map f own) → k ≡ m → n ≡ m → x < length table
    → f v ≡ added [] (concat (map (next (map f table)) bs) ++ next (map f own) x) → StaysBelow n (map f (set table x v))
joined-below f table own x v bs k m n low mine same still lt is a b e = case (eqb a x) refl
  where
    bound : (has (concat (map (next (map f table)) bs)) b ≡ true) ⊎ (has (next (map f own) x) b ≡ true) → b < n
    bound (inl old) = let r = has-concat m (map f table) bs low b old in omega (arith, r, still)
    bound (inr new) = let r = mine x b new in omega (arith, r, same, still)

    case : (c : Bool) → eqb a x ≡ c → b < n
    case true here =
        let at : a ≡ x = grind (arith, nat_tests) in
        let row : has (f v) b ≡ true = ap (λ (r : List ℕ). has r b) (sym (next-written f table x v lt))
        ∙ subst (λ (y : ℕ). Step (map f (set table x v)) y b) at e in
        let all : has (concat (map (next (map f table)) bs) ++ next (map f own) x) b ≡ true =
        sym (has-added [] (concat (map (next (map f table)) bs) ++ next (map f own) x) b)
        ∙ ap (λ (r : List ℕ). has r b) (sym is) ∙ row in
        bound (either (has (concat (map (next (map f table)) bs)) b) (has (next (map f own) x) b)
        (sym (list_any-append (eqb b) (concat (map (next (map f table)) bs)) (next (map f own) x)) ∙ all))
    case false other =
        let row : Step (map f table) a b =
        ap (λ (r : List ℕ). has r b)
        (sym (next-unwritten f table x v a
        (λ (at : a ≡ x). (let yes : eqb a x ≡ true = grind (arith, nat_tests) in absurd (cc))))) ∙ e in
        let r = low a b row in omega (arith, r, still)
