-- Costs that were first held as numbers, a place each, and are then written as eight bytes each.
use Rattle.std.proofs.Common.{sym, ap, ◌∙◌, append-nil, arith, length-set, take-suc-set, ◌+◌, ◌*◌, ◌≡◌, ◌∷◌, ◌++◌}
use Rattle.std.specs.Prelude.{◌≤◌, set}
use Rattle.std.proofs.Math.Seq.{append_snoc}
use Rattle.definitions.specs.Basics.{ℕ, suc, refl, List, [], map, length, take, sets}
use Rattle.definitions.specs.Plans.{Row}
use Rattle.definitions.specs.Outcomes.{written}
use Rattle.definitions.specs.Boundary.{bytes_of}

-- From row r on, each row puts its cost at its own place.
costs_from : (r : ℕ) (rows : List Row) (area : List ℕ) → r + length rows ≤ length area
    → take (r + length rows) (written r 1 (λ row. row.cost ∷ []) rows area) ≡ take r area ++ map (λ row. row.cost) rows
costs_from r [] area fits =
    let all : r + 0 ≡ r = omega arith in
    ap (λ k. take k area) all ∙ sym (append-nil (take r area))
costs_from r (x ∷ xs) area fits =
    let one : r * 1 ≡ r = omega arith in
    let next : r + suc (length xs) ≡ suc r + length xs = omega arith in
    let room : suc r + length xs ≤ length (set area r x.cost) = simp length-set (omega arith) in
    let inside : suc r ≤ length area = omega arith in
    ap (λ k. take (r + suc (length xs)) (written (suc r) 1 (λ row. row.cost ∷ []) xs (set area k x.cost))) one
    ∙ ap (λ k. take k (written (suc r) 1 (λ row. row.cost ∷ []) xs (set area r x.cost))) next
    ∙ costs_from (suc r) xs (set area r x.cost) room
    ∙ ap (λ l. l ++ map (λ row. row.cost) xs) (take-suc-set area r x.cost inside)
    ∙ append_snoc (take r area) x.cost (map (λ row. row.cost) xs)

-- What a function gives of each element is written as the element itself would be, by the function.
written_map : {A B : Type 0} (r width : ℕ) (values : B → List ℕ) (f : A → B) (xs : List A) (area : List ℕ)
    → written r width values (map f xs) area ≡ written r width (λ x. values (f x)) xs area
written_map r width values f [] area = refl
written_map r width values f (x ∷ xs) area = written_map (suc r) width values f xs (sets area (r * width) (values (f x)))

-- Rows whose costs are held, a place each.
pub held_costs : (rows : List Row) (area : List ℕ) → length rows ≤ length area → take (length rows) (written 0 1 (λ row. row.cost ∷ []) rows area) ≡ map (λ row. row.cost) rows
held_costs rows area few =
    let all : length rows ≡ 0 + length rows = omega arith in
    ap (λ k. take k (written 0 1 (λ row. row.cost ∷ []) rows area)) all ∙ costs_from 0 rows area (omega arith)

-- So the cost area of a call from C is right if the held costs are.
pub stored_costs : (rows : List Row) (held : List ℕ) → take (length rows) held ≡ map (λ row. row.cost) rows
    → (costs : List ℕ) → written 0 8 (bytes_of 8) (take (length rows) held) costs ≡ written 0 8 (λ row. bytes_of 8 row.cost) rows costs
stored_costs rows held e costs = ap (λ l. written 0 8 (bytes_of 8) l costs) e ∙ written_map 0 8 (bytes_of 8) (λ row. row.cost) rows costs
