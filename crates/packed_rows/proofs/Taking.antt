-- The beds of a word taken out one by one, and those of all words.
use Rattle.std.proofs.Common.{arith, refl, sym, ap, ◌∙◌, append-nil, append_assoc, length-take-le, div-one, set, take_all, ◌≡◌, ◌+◌, ◌-◌, ◌*◌, ◌/◌, ◌%◌, ◌^◌, ◌<◌, ◌≤◌, ◌∷◌, ◌++◌}
use Rattle.std.proofs.lemmas.List.{length-replicate, take_more, drop_all}
use Rattle.std.proofs.lemmas.List.Edits.{sets, sets-eq}
use Rattle.definitions.specs.Basics.{ℕ, zero, suc, List, [], flat_map, length, get_or, take, replicate}
use Rattle.packed_rows.specs.Packed.{beds_of_word, packed_beds}
use Rattle.packed_rows.specs.Laws.{word_long, packed_more, packed_none, packed_length, packed_long}

-- The beds of a word that fits 32 bits.
taken : (w : ℕ) → w < 4_294_967_296
    → beds_of_word 7 w ≡ (w / 268_435_456 % 16) ∷ (w / 16_777_216 % 16) ∷ (w / 1_048_576 % 16) ∷ (w / 65_536 % 16) ∷ (w / 4_096 % 16) ∷ (w / 256 % 16) ∷ (w / 16 % 16) ∷ (w % 16) ∷ []
unfolding beds_of_word
taken w h =
    let two : w / 16 / 16 ≡ w / 256 = omega arith in
    let three : w / 256 / 16 ≡ w / 4_096 = omega arith in
    let four : w / 4_096 / 16 ≡ w / 65_536 = omega arith in
    let five : w / 65_536 / 16 ≡ w / 1_048_576 = omega arith in
    let six : w / 1_048_576 / 16 ≡ w / 16_777_216 = omega arith in
    let seven : w / 16_777_216 / 16 ≡ w / 268_435_456 % 16 = omega arith in
    rw (two, three, four, five, six, seven)

digit : (w k : ℕ) → w < 4_294_967_296 → k < 8 → get_or (beds_of_word 7 w) k 0 ≡ w / 2 ^ (28 - 4 * k) % 16
digit w k h few = ap (λ (l : List ℕ). get_or l k 0) (taken w h) ∙ at_place k few
  where
    at_place : (k : ℕ) → k < 8
        → get_or ((w / 268_435_456 % 16) ∷ (w / 16_777_216 % 16) ∷ (w / 1_048_576 % 16) ∷ (w / 65_536 % 16) ∷ (w / 4_096 % 16) ∷ (w / 256 % 16) ∷ (w / 16 % 16) ∷ (w % 16) ∷ []) k 0
        ≡ w / 2 ^ (28 - 4 * k) % 16
    at_place zero l = refl
    at_place (suc zero) l = refl
    at_place (suc (suc zero)) l = refl
    at_place (suc (suc (suc zero))) l = refl
    at_place (suc (suc (suc (suc zero)))) l = refl
    at_place (suc (suc (suc (suc (suc zero))))) l = refl
    at_place (suc (suc (suc (suc (suc (suc zero)))))) l = refl
    at_place (suc (suc (suc (suc (suc (suc (suc zero))))))) l = ap (λ (q : ℕ). q % 16) (sym (div-one w))
    at_place (suc (suc (suc (suc (suc (suc (suc (suc k)))))))) l = absurd (omega arith)

-- Elements written one behind the other, and some behind others.
sets_push : (l vs : List ℕ) (i a : ℕ) → sets l i (vs ++ a ∷ []) ≡ set (sets l i vs) (i + length vs) a
sets_push l [] i a = let e : i + 0 ≡ i = omega arith in rw e
sets_push l (v ∷ vs) i a = let e : i + suc (length vs) ≡ suc i + length vs = omega arith in sets_push (set l i v) vs (suc i) a ∙ rw e

sets_behind : (l vs ws : List ℕ) (i : ℕ) → sets l i (vs ++ ws) ≡ sets (sets l i vs) (i + length vs) ws
sets_behind l [] ws i = let e : i + 0 ≡ i = omega arith in rw e
sets_behind l (v ∷ vs) ws i = let e : i + suc (length vs) ≡ suc i + length vs = omega arith in sets_behind (set l i v) vs ws (suc i) ∙ rw e

-- The first k beds of a word are written from a place on.
abbrev pub first_written : List ℕ → ℕ → ℕ → ℕ → List ℕ
first_written l first w k = sets l first (take k (beds_of_word 7 w))

pub one_written : (l : List ℕ) (first w k a behind : ℕ) → w < 4_294_967_296 → k < 8 → behind ≡ 28 - 4 * k → a ≡ w / 2 ^ behind % 16
    → set (first_written l first w k) (first + k) a ≡ first_written l first w (k + 1)
one_written l first w k a behind fits few place is =
    let taken_out : a ≡ w / 2 ^ (28 - 4 * k) % 16 = is ∙ ap (λ (s : ℕ). w / 2 ^ s % 16) place in
    let beds = beds_of_word 7 w in
    let long : length (take k beds) ≡ k = length-take-le k beds (omega (arith, word_long 7 w)) in
    let next : take (k + 1) beds ≡ take k beds ++ a ∷ [] =
    take_more beds k 0 (omega (arith, word_long 7 w)) ∙ ap (λ (b : ℕ). take k beds ++ b ∷ []) (digit w k fits few ∙ sym taken_out) in
    rw long at (sym (ap (sets l first) next ∙ sets_push l (take k beds) first a))

pub all_written : (l : List ℕ) (first w k : ℕ) → 8 ≤ k → first_written l first w k ≡ sets l first (beds_of_word 7 w)
all_written l first w k most = ap (sets l first) (take_all k (beds_of_word 7 w) (omega (arith, word_long 7 w)))

-- The beds of the first j words are written.
abbrev pub words_written : List ℕ → ℕ → List ℕ
words_written words j = sets (replicate 32 0) 0 (packed_beds (take j words))

pub no_word_written : (words : List ℕ) → replicate 32 0 ≡ words_written words 0
unfolding packed_beds flat_map
no_word_written words = refl

packed_push : (ws : List ℕ) (w : ℕ) → packed_beds (ws ++ w ∷ []) ≡ packed_beds ws ++ beds_of_word 7 w
packed_push [] w = packed_more w [] ∙ ap (λ (l : List ℕ). beds_of_word 7 w ++ l) packed_none ∙ append-nil (beds_of_word 7 w) ∙ sym (ap (λ (l : List ℕ). l ++ beds_of_word 7 w) packed_none)
packed_push (z ∷ ws) w =
    packed_more z (ws ++ w ∷ []) ∙ ap (λ (l : List ℕ). beds_of_word 7 z ++ l) (packed_push ws w)
    ∙ sym (append_assoc (beds_of_word 7 z) (packed_beds ws) (beds_of_word 7 w)) ∙ sym (ap (λ (l : List ℕ). l ++ beds_of_word 7 w) (packed_more z ws))

pub one_word_written : (words beds : List ℕ) (j : ℕ) → length words ≡ 4 → j < 4 → beds ≡ sets (words_written words j) (8 * j) (beds_of_word 7 (get_or words j 0)) → beds ≡ words_written words (j + 1)
one_word_written words beds j long few is =
    let front = take j words in
    let place : 0 + length (packed_beds front) ≡ 8 * j = omega (arith, packed_length front, length-take-le j words (omega arith)) in
    let next : packed_beds (take (j + 1) words) ≡ packed_beds front ++ beds_of_word 7 (get_or words j 0) =
    ap packed_beds (take_more words j 0 (omega arith)) ∙ packed_push front (get_or words j 0) in
    is ∙ sym (ap (sets (replicate 32 0) 0) next ∙ sets_behind (replicate 32 0) (packed_beds front) (beds_of_word 7 (get_or words j 0)) 0 ∙ rw place)

pub all_words_written : (words : List ℕ) (j : ℕ) → length words ≡ 4 → 4 ≤ j → words_written words j ≡ packed_beds words
all_words_written words j long most =
    let beds = packed_beds words in
    let all : take j words ≡ words = take_all j words (omega arith) in
    let long_beds = packed_long words long in
    ap (λ (l : List ℕ). sets (replicate 32 0) 0 (packed_beds l)) all
    ∙ sets-eq beds (replicate 32 0) 0 (omega (arith, long_beds, length-replicate {A = ℕ} 32 0))
    ∙ ap (λ (l : List ℕ). beds ++ l) (drop_all (0 + length beds) (replicate 32 0) (omega (arith, long_beds, length-replicate {A = ℕ} 32 0))) ∙ append-nil beds
