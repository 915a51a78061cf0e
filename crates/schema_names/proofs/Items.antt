-- Rows of numbers, and the items that they stand for.
use Rattle.std.specs.Prelude.{◌≡◌, ℕ, List, [], ◌∷◌, ◌++◌, Option, Some, map, length, get_or, slice_get}
use Rattle.std.specs.Option.{option_map}
use Rattle.std.proofs.Common.{refl, ap, sym, subst, ◌∙◌, zero, suc}
use Rattle.std.proofs.lemmas.List.{length-map}
use Rattle.std.proofs.lemmas.Option.{slice_get-map}
use Rattle.graphs.specs.Graphs.{Graph}
use Rattle.schema_names.proofs.Rows.{map-joined}
use Rattle.express_syntax.specs.Schemas.{Declaration}
use Rattle.schema_names.specs.Numbers.{AreAt, AreNumberRowsOf}

-- what is at a number stays there as the list goes on
pub stays : {A : Type 0} (xs ys : List A) (k : ℕ) (x : A) → slice_get xs k ≡ Some x → slice_get (xs ++ ys) k ≡ Some x
stays [] ys k x h = absurd (cc)
stays (y ∷ xs) ys zero x h = h
stays (y ∷ xs) ys (suc k) x h = stays xs ys k x h

pub at-end : {A : Type 0} (xs : List A) (x : A) → slice_get (xs ++ x ∷ []) (length xs) ≡ Some x
at-end [] x = refl
at-end (y ∷ xs) x = at-end xs x

-- what an item is mapped to stands at its number
pub mapped-at : {A B : Type 0} (f : A → B) (xs : List A) (i : ℕ) (x : A) → slice_get xs i ≡ Some x
    → slice_get (map f xs) i ≡ Some (f x)
mapped-at f xs i x e = slice_get-map f xs i ∙ ap (option_map f) e

-- the head and the tail of rows that are told alike
pub head-is : {A : Type 0} (x y : A) (xs ys : List A) → (x ∷ xs) ≡ (y ∷ ys) → x ≡ y
head-is x y xs ys h = cc

pub tail-is : {A : Type 0} (x y : A) (xs ys : List A) → (x ∷ xs) ≡ (y ∷ ys) → xs ≡ ys
tail-is x y xs ys h = cc

pub front-at : {A : Type 0} (all : List A) (k : ℕ) (row : List ℕ) (p : A) (ps : List A) → AreAt all (k ∷ row) (p ∷ ps)
    → slice_get all k ≡ Some p
front-at all k row p ps h = head-is (slice_get all k) (Some p) (map (slice_get all) row) (map Some ps) h

pub back-at : {A : Type 0} (all : List A) (k : ℕ) (row : List ℕ) (p : A) (ps : List A) → AreAt all (k ∷ row) (p ∷ ps)
    → AreAt all row ps
back-at all k row p ps h = tail-is (slice_get all k) (Some p) (map (slice_get all) row) (map Some ps) h

pub more-at : {A : Type 0} (all : List A) (k : ℕ) (row : List ℕ) (p : A) (ps : List A) → slice_get all k ≡ Some p
    → AreAt all row ps → AreAt all (k ∷ row) (p ∷ ps)
more-at {A} all k row p ps h more = ap (λ (o : Option A). o ∷ map (slice_get all) row) h
    ∙ ap (λ (os : List (Option A)). Some p ∷ os) more

pub stay-at : {A : Type 0} (all more : List A) (row : List ℕ) (ps : List A) → AreAt all row ps
    → AreAt (all ++ more) row ps
stay-at all more [] [] h = refl
stay-at all more [] (p ∷ ps) h = absurd (cc)
stay-at all more (k ∷ row) [] h = absurd (cc)
stay-at all more (k ∷ row) (p ∷ ps) h =
    more-at (all ++ more) k row p ps (stays all more k p (front-at all k row p ps h))
    (stay-at all more row ps (back-at all k row p ps h))

pub joined-at : {A : Type 0} (all : List A) (row rest : List ℕ) (ps qs : List A) → AreAt all row ps → AreAt all rest qs
    → AreAt all (row ++ rest) (ps ++ qs)
joined-at all row rest ps qs h k =
    map-joined (slice_get all) row rest ∙ ap (λ xs. xs ++ map (slice_get all) rest) h
    ∙ ap (λ ys. map Some ps ++ ys) k ∙ sym (map-joined Some ps qs)

-- rows of declarations
pub rows-same : {A : Type 0} (of : Declaration → List A) (all : List A) (ds : List Declaration) (rows : Graph)
    → AreNumberRowsOf of all ds rows → length rows ≡ length ds
rows-same of all ds rows h =
    sym (length-map rows (map (slice_get all))) ∙ ap length h
    ∙ length-map ds (λ (d : Declaration). map Some (of d))

pub stay-rows : {A : Type 0} (of : Declaration → List A) (all more : List A) (ds : List Declaration)
    (rows : List (List ℕ)) → AreNumberRowsOf of all ds rows → AreNumberRowsOf of (all ++ more) ds rows
stay-rows of all more [] [] h = refl
stay-rows of all more [] (r ∷ rows) h = absurd (cc)
stay-rows of all more (d ∷ ds) [] h = absurd (cc)
stay-rows of all more (d ∷ ds) (r ∷ rows) h =
    let one = head-is (map (slice_get all) r) (map Some (of d)) (map (map (slice_get all)) rows)
    (map (λ (x : Declaration). map Some (of x)) ds) h in
    let rest = tail-is (map (slice_get all) r) (map Some (of d)) (map (map (slice_get all)) rows)
    (map (λ (x : Declaration). map Some (of x)) ds) h in
    ap (λ o. o ∷ map (map (slice_get (all ++ more))) rows) (stay-at all more r (of d) one)
    ∙ ap (λ os. map Some (of d) ∷ os) (stay-rows of all more ds rows rest)

pub one-more-row : {A : Type 0} (of : Declaration → List A) (all : List A) (ds : List Declaration) (d : Declaration)
    (rows : List (List ℕ)) (row : List ℕ) → AreNumberRowsOf of all ds rows → AreAt all row (of d)
    → AreNumberRowsOf of all (ds ++ d ∷ []) (rows ++ row ∷ [])
one-more-row of all ds d rows row h k =
    map-joined (map (slice_get all)) rows (row ∷ [])
    ∙ ap (λ xs. xs ++ map (slice_get all) row ∷ []) h
    ∙ ap (λ y. map (λ (x : Declaration). map Some (of x)) ds ++ y ∷ []) k
    ∙ sym (map-joined (λ (x : Declaration). map Some (of x)) ds (d ∷ []))

-- the row of a declaration
pub row-at : {A : Type 0} (of : Declaration → List A) (all : List A) (ds : List Declaration) (rows : List (List ℕ))
    (i : ℕ) (d : Declaration) → AreNumberRowsOf of all ds rows → slice_get ds i ≡ Some d → AreAt all (get_or rows i []) (of d)
row-at of all [] rows i d h at = absurd (cc)
row-at of all (x ∷ ds) [] i d h at = absurd (cc)
row-at of all (x ∷ ds) (r ∷ rows) zero d h at =
    let same : x ≡ d = cc in
    subst (λ y. AreAt all r (of y)) same
    (head-is (map (slice_get all) r) (map Some (of x)) (map (map (slice_get all)) rows)
    (map (λ (y : Declaration). map Some (of y)) ds) h)
row-at of all (x ∷ ds) (r ∷ rows) (suc i) d h at =
    row-at of all ds rows i d
    (tail-is (map (slice_get all) r) (map Some (of x)) (map (map (slice_get all)) rows)
    (map (λ (y : Declaration). map Some (of y)) ds) h) at
