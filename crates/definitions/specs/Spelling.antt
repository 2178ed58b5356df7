-- The one spelling of what a file says.
use Prim.Native.Char.{code}
use Rattle.std.specs.Prelude.{◌+◌, ◌/◌, ◌%◌, ◌^◌, ◌&&◌, ◌∷◌, ◌++◌}
use Rattle.definitions.specs.Basics.{ℕ, zero, suc, Bool, true, false, not, Option, none, some, List, []}
use Rattle.definitions.specs.Basics.{map, flat_map, ltb, text, every, none_or, is_empty}
use Rattle.definitions.specs.Limits.{Field, digit_count, limits}
use Rattle.definitions.specs.Syntax.{Patient, Table, Region}

-- The decimal digits of a number that has at most k of them; n has at most n + 1.
unfoldable pub digits_within : ℕ → ℕ → List ℕ
digits_within zero n = []
digits_within (suc k) n = elim (ltb n 10) [ true ↦ (code "0" + n) ∷ [] | false ↦ digits_within k (n / 10) ++ (code "0" + n % 10) ∷ [] ]

abbrev pub decimal : ℕ → List ℕ
decimal n = digits_within (suc n) n

abbrev pub hyphen_or_decimal : Option ℕ → List ℕ
hyphen_or_decimal none = text "-"
hyphen_or_decimal (some n) = decimal n

-- Parts in brackets, single spaces between them.
abbrev pub bracketed : List (List ℕ) → List ℕ
bracketed [] = text "()"
bracketed (p ∷ ps) = code "(" ∷ (p ++ (flat_map (λ q. code " " ∷ q) ps ++ text ")"))

-- A form as a line, ended by byte 10.
abbrev pub line : List (List ℕ) → List ℕ
line ps = bracketed ps ++ text "\n"

-- The lines of a patient and of a table.
unfoldable pub spell_patient : Patient → List ℕ
spell_patient p = line (text "patient" ∷ decimal p.clinic ∷ decimal p.bed_count ∷ hyphen_or_decimal p.parent ∷ hyphen_or_decimal p.fixed_bed ∷ [])

unfoldable pub spell_table : Table → List ℕ
spell_table t = line (text "cost" ∷ bracketed (map decimal t.members) ∷ bracketed (map hyphen_or_decimal t.entries) ∷ [])

-- All lines before the end line; and with it.
unfoldable pub spell_body : Region → List ℕ
spell_body r =
    line (text "region" ∷ decimal r.patient_count ∷ decimal r.table_count ∷ decimal r.plans_wanted ∷ [])
    ++ (flat_map spell_patient r.patients ++ flat_map spell_table r.tables)

unfoldable pub spell : Region → List ℕ
spell r = spell_body r ++ line (text "end" ∷ decimal r.stated_sum ∷ [])

-- What a file can say: numbers of at most 7 digits; in each table one or more members and entries.
abbrev pub spellable : ℕ → Bool
spellable n = ltb n (10 ^ (limits digit_count).highest)

unfoldable pub well_formed : Region → Bool
well_formed r =
    every spellable (r.patient_count ∷ r.table_count ∷ r.plans_wanted ∷ r.stated_sum ∷ [])
    && every (λ p. spellable p.clinic && spellable p.bed_count && none_or spellable p.parent && none_or spellable p.fixed_bed) r.patients
    && every (λ t. not (is_empty t.members) && every spellable t.members) r.tables
    && every (λ t. not (is_empty t.entries) && every (none_or spellable) t.entries) r.tables
