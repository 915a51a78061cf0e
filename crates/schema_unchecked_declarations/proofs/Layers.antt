-- Data types with elements, layer by layer.
use Rattle.std.proofs.Common.{◌≡◌, ◌⊎◌, inl, inr, List, ◌++◌, Option, Bool, Box, Global, Result, OnOk, ap, sym, subst, ◌∙◌}
use Rattle.std.proofs.lemmas.Result.{on_ok_weaker}
use Rattle.express_syntax.specs.declared.tree.Bounds.{Bounds}
use Rattle.express_syntax.specs.declared.tree.DataType.{DataType}
use Rattle.express_syntax.specs.declared.tree.DataType.TheVariants as kinds
use Rattle.express_syntax.specs.declared.tree.DataType.TheOpen as layer
use Rattle.express_syntax.specs.declared.tree.DataType.TheFolds.{fold-roll-DataType}
use Rattle.express_syntax.specs.Schemas as trees
use Rattle.express_syntax.specs.Views.{if_some, bounds_of, data_type_of, data_type_step}
use Rattle.schema_semantics.specs.Names.{Name}
use Rattle.schema_semantics.specs.Parts.{Unchecked, Candidate, parts_of_bounds, parts_of_some_bounds, parts_of_data_type}
use Rattle.schema_unchecked_declarations.specs.UncheckedLists.{Adds}
use Rattle.schema_unchecked_declarations.proofs.Joining.{adds-joined}

array-seen : (o u : Bool) (b : Box Bounds Global) (k : Box DataType Global)
    → data_type_of (kinds.Array o u b k) ≡ trees.array (bounds_of b.value) o u (data_type_of k.value)
array-seen o u b k =
    ap data_type_of (sym (kinds.rolls-Array o u b k))
    ∙ fold-roll-DataType trees.DataType data_type_step (layer.Array o u b k)

list-seen : (u : Bool) (b : Box (Option Bounds) Global) (k : Box DataType Global)
    → data_type_of (kinds.List u b k) ≡ trees.list (if_some bounds_of b.value) u (data_type_of k.value)
list-seen u b k =
    ap data_type_of (sym (kinds.rolls-List u b k))
    ∙ fold-roll-DataType trees.DataType data_type_step (layer.List u b k)

bag-seen : (b : Box (Option Bounds) Global) (k : Box DataType Global)
    → data_type_of (kinds.Bag b k) ≡ trees.bag (if_some bounds_of b.value) (data_type_of k.value)
bag-seen b k =
    ap data_type_of (sym (kinds.rolls-Bag b k)) ∙ fold-roll-DataType trees.DataType data_type_step (layer.Bag b k)

set-seen : (b : Box (Option Bounds) Global) (k : Box DataType Global)
    → data_type_of (kinds.Set b k) ≡ trees.set (if_some bounds_of b.value) (data_type_of k.value)
set-seen b k =
    ap data_type_of (sym (kinds.rolls-Set b k)) ∙ fold-roll-DataType trees.DataType data_type_step (layer.Set b k)

-- the parts of an array, and of what has bounds or none
pub parts-of-array : (n : Name) (x : DataType) (o u : Bool) (b : Box Bounds Global) (k : Box DataType Global)
    → x ≡ kinds.Array o u b k
    → parts_of_data_type n (data_type_of x)
    ≡ parts_of_bounds n (bounds_of b.value) ++ parts_of_data_type n (data_type_of k.value)
parts-of-array n x o u b k e = ap (parts_of_data_type n) (ap data_type_of e ∙ array-seen o u b k)

pub parts-of-others : (n : Name) (x : DataType) (b : Box (Option Bounds) Global) (k : Box DataType Global)
    → ((u : Bool) × (x ≡ kinds.List u b k)) ⊎ ((x ≡ kinds.Bag b k) ⊎ (x ≡ kinds.Set b k))
    → parts_of_data_type n (data_type_of x)
    ≡ parts_of_some_bounds n (if_some bounds_of b.value) ++ parts_of_data_type n (data_type_of k.value)
parts-of-others n x b k (inl (u, e)) = ap (parts_of_data_type n) (ap data_type_of e ∙ list-seen u b k)
parts-of-others n x b k (inr (inl e)) = ap (parts_of_data_type n) (ap data_type_of e ∙ bag-seen b k)
parts-of-others n x b k (inr (inr e)) = ap (parts_of_data_type n) (ap data_type_of e ∙ set-seen b k)

-- behind the bounds come the parts of the elements
pub elements-joined : {E : Type 0} (r : Result (Unit {0}) E) (n : Name) (x : DataType) (cs : List Candidate)
    (e k : DataType) (old mid new : List Unchecked)
    → parts_of_data_type n (data_type_of x) ≡ cs ++ parts_of_data_type n (data_type_of k) → Adds cs old mid → e ≡ k
    → OnOk r (Adds (parts_of_data_type n (data_type_of e)) mid new)
    → OnOk r (Adds (parts_of_data_type n (data_type_of x)) old new)
elements-joined r n x cs e k old mid new are h is more =
    subst (λ ds. OnOk r (Adds ds old new)) (sym are)
    (on_ok_weaker r (adds-joined cs (parts_of_data_type n (data_type_of k)) old mid new h)
    (subst (λ d. OnOk r (Adds (parts_of_data_type n (data_type_of d)) mid new)) is more))
