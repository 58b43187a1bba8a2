-- Plan sheets: a plan's sheet reads back as the plan, and a plan has one sheet.
use Rattle.std.proofs.Common.{◌≡◌, ℕ, zero, suc, ◌+◌, ◌-◌, ◌*◌, ◌/◌, ◌%◌, ◌<◌, ◌≤◌, Bool, true, false, ◌&&◌, eqb, List, [], ◌∷◌, ◌++◌, map, length, get_or, take, drop, Some, None, Ok, Err, Option, Result, sym, refl, ap, ◌∙◌, subst, ap₂, subst₂, append_assoc, mul_assoc, mul-zero, zero-add, mul-suc, mul-add, arith, lit<}
use Rattle.std.proofs.lemmas.List.{append-nil, length-append, length-drop, get_or-take, get_or-drop, get_or_append_left, get_or-append_right, drop_more, drop_all, take_all}
use Rattle.std.proofs.lemmas.Bool.{eqb-true, and_from, le-leb, lt-ltb, eq-eqb}
use Rattle.fault.specs.declared.faults.Fault.{Fault}
use Rattle.fault.specs.declared.faults.Fault.TheVariants.{Contents, BodyPlace, NodeCount, PlanSize}
use Rattle.wiring.specs.Lists.{range, unless, when_not, or_else, only_if}
use Rattle.wiring.specs.Tables.{Table}
use Rattle.wiring.specs.declared.table.Cell.{Cell}
use Rattle.wiring.specs.declared.table.Cell.TheVariants.{Empty, Hop}
use Rattle.sheet.specs.Lines.{byte, line, body}
use Rattle.sheet.specs.Contents.{sheet_fault, plan_letters}
use Rattle.sheet.specs.Plans.{Plan, whole_plan, read_plan, cell_of, cells_in}
use Rattle.sheet.specs.Written.{cell_bytes, row_bytes, table_bytes, plan_head, plan_sheet, need, Writable, Gives}
use Rattle.sheet.proofs.ContentsLaws.{fine, length_body}

-- what is read where nothing is wrong with the contents
pub plan_is : (s : List ℕ) (n : ℕ) (a b : List ℕ) → sheet_fault plan_letters s ≡ None → n ≡ byte a 0 → a ≡ body s (line s 0) → b ≡ body s (line s 1) → whole_plan (record { nodes = n; cells = b }) ≡ read_plan s
plan_is s n a b e c p q =
    ap₂ (λ (x : ℕ) (y : List ℕ). whole_plan (record { nodes = x; cells = y })) (c ∙ ap (λ (x : List ℕ). byte x 0) p) q
    ∙ ap (λ (o : Option Fault). unless o (whole_plan (record { nodes = byte (body s (line s 0)) 0; cells = body s (line s 1) }))) (sym e)

-- ---- the bytes of a table, by place

pub length_cell : (x : Cell) → length (cell_bytes x) ≡ 2
length_cell Empty = refl
length_cell (Hop c v) = refl

pub length_row : (t : Table) (d m k : ℕ) → length (row_bytes t d (range m k)) ≡ 2 * k
length_row t d m zero = refl
length_row t d m (suc k) = length-append (cell_bytes (t d m)) _ ∙ omega (arith, length_cell (t d m), length_row t d (suc m) k)

pub length_table : (t : Table) (n d k : ℕ) → length (table_bytes t (range 0 n) (range d k)) ≡ 2 * n * k
length_table t n d zero = sym (mul-zero (2 * n))
length_table t n d (suc k) = length-append (row_bytes t d (range 0 n)) _ ∙ omega (arith, length_row t d 0 n, length_table t n (suc d) k, mul-suc (2 * n) k)

-- byte j of cell i of a row
row_at : (t : Table) (d m k i j : ℕ) → i < k → j < 2 → get_or (row_bytes t d (range m k)) (2 * i + j) 0 ≡ get_or (cell_bytes (t d (m + i))) j 0
row_at t d m zero i j l h = absurd (omega arith)
row_at t d m (suc k) zero j l h =
    let e : 2 * 0 + j ≡ j = omega arith in
    let f : m + 0 ≡ m = omega arith in
    rw (e, f) (get_or_append_left (cell_bytes (t d m)) _ 0 j (omega (arith, length_cell (t d m))))
row_at t d m (suc k) (suc i) j l h =
    let e : 2 * suc i + j - 2 ≡ 2 * i + j = omega arith in
    let f : suc m + i ≡ m + suc i = omega arith in
    get_or-append_right (cell_bytes (t d m)) _ 2 (2 * suc i + j) 0 (length_cell (t d m)) (omega arith)
    ∙ ap (λ x. get_or (row_bytes t d (range (suc m) k)) x 0) e
    ∙ row_at t d (suc m) k i j (omega arith) h
    ∙ ap (λ x. get_or (cell_bytes (t d x)) j 0) f

-- byte e of row i of a table
table_at : (t : Table) (n d k i e : ℕ) → i < k → e < 2 * n → get_or (table_bytes t (range 0 n) (range d k)) (2 * (n * i) + e) 0 ≡ get_or (row_bytes t (d + i) (range 0 n)) e 0
table_at t n d zero i e l h = absurd (omega arith)
table_at t n d (suc k) zero e l h =
    let p : 2 * (n * 0) + e ≡ e = omega (arith, mul-zero n) in
    let f : d + 0 ≡ d = omega arith in
    rw (p, f) (get_or_append_left (row_bytes t d (range 0 n)) _ 0 e (omega (arith, length_row t d 0 n)))
table_at t n d (suc k) (suc i) e l h =
    let p : 2 * (n * suc i) + e - 2 * n ≡ 2 * (n * i) + e = omega (arith, mul-suc n i) in
    let f : suc d + i ≡ d + suc i = omega arith in
    get_or-append_right (row_bytes t d (range 0 n)) _ (2 * n) (2 * (n * suc i) + e) 0 (length_row t d 0 n) (omega (arith, mul-suc n i))
    ∙ ap (λ x. get_or (table_bytes t (range 0 n) (range (suc d) k)) x 0) p
    ∙ table_at t n (suc d) k i e (omega arith) h
    ∙ ap (λ x. get_or (row_bytes t x (range 0 n)) e 0) f

cell_at : (t : Table) (n d m j : ℕ) → d < n → m < n → j < 2 → get_or (table_bytes t (range 0 n) (range 0 n)) (2 * (n * d + m) + j) 0 ≡ get_or (cell_bytes (t d m)) j 0
cell_at t n d m j l k h =
    let e : 2 * (n * d + m) + j ≡ 2 * (n * d) + (2 * m + j) = omega arith in
    let f : 0 + d ≡ d = omega arith in
    let g : 0 + m ≡ m = omega arith in
    ap (λ x. get_or (table_bytes t (range 0 n) (range 0 n)) x 0) e
    ∙ table_at t n 0 n d (2 * m + j) l (omega arith)
    ∙ row_at t (0 + d) 0 n m j k h
    ∙ ap₂ (λ x y. get_or (cell_bytes (t x y)) j 0) f g

-- ---- a plan's sheet reads back

cell_back : (x : Cell) → (x ≡ Hop 255 255 → ⊥) → cell_of (get_or (cell_bytes x) 0 0) (get_or (cell_bytes x) 1 0) ≡ x
cell_back Empty h = refl
cell_back (Hop c v) h = go (eqb c 255) refl (eqb v 255) refl
  where
    go : (a : Bool) → eqb c 255 ≡ a → (b : Bool) → eqb v 255 ≡ b → cell_of c v ≡ Hop c v
    go true p true q = absurd (h (ap₂ (λ (x y : ℕ). Hop x y) (eqb-true c 255 p) (eqb-true v 255 q)))
    go true p false q = rw (p, q, cell_of) refl
    go false p b q = rw (p, cell_of) refl

table_back : (n : ℕ) (t : Table) → Writable n t → (d m : ℕ) → d < n → m < n → cells_in (record { nodes = n; cells = table_bytes t (range 0 n) (range 0 n) }) d m ≡ t d m
table_back n t h d m l k =
    let e : 2 * (n * d + m) ≡ 2 * (n * d + m) + 0 = omega arith in
    rw (cell_at t n d m 1 l k (omega arith)) (rw (e, cell_at t n d m 0 l k (omega arith)) (cell_back (t d m) (h d m l k)))

tests_pass : (long ends few whole : Bool) (p : Plan) → long ≡ true → ends ≡ true → few ≡ true → whole ≡ true
    → unless (when_not (long && true) Contents (or_else (when_not ends (BodyPlace 1) None) None)) (only_if few NodeCount (only_if whole PlanSize (Ok p))) ≡ Ok p
tests_pass long ends few whole p a b c d = rw (a, b, c, d) refl

-- a sheet with a plan's head reads as what stands behind the head
head_reads : (h l n : ℕ) (rest : List ℕ) → 1 ≤ n → n ≤ 64 → 256 * h + l ≡ 2 * n * n → length rest ≡ 2 * n * n → read_plan (2 ∷ 78 ∷ 0 ∷ 11 ∷ 0 ∷ 1 ∷ 80 ∷ 0 ∷ 12 ∷ h ∷ l ∷ n ∷ rest) ≡ Ok (record { nodes = n; cells = rest })
head_reads h l n rest a b e f =
    let all : take (256 * h + l) rest ≡ rest = take_all (256 * h + l) rest (omega arith) in
    tests_pass _ _ _ _ (record { nodes = n; cells = take (256 * h + l) rest })
    (lt-ltb 10 (length (2 ∷ 78 ∷ 0 ∷ 11 ∷ 0 ∷ 1 ∷ 80 ∷ 0 ∷ 12 ∷ h ∷ l ∷ n ∷ rest)) (omega arith))
    (eq-eqb (12 + (256 * h + l)) (length (2 ∷ 78 ∷ 0 ∷ 11 ∷ 0 ∷ 1 ∷ 80 ∷ 0 ∷ 12 ∷ h ∷ l ∷ n ∷ rest)) (omega arith))
    (and_from _ _ (le-leb 1 n a) (le-leb n 64 b))
    (eq-eqb _ _ (ap length all ∙ f))
    ∙ ap (λ (x : List ℕ). Ok (record { nodes = n; cells = x })) all

pub sheet_reads_back : (n : ℕ) (t : Table) → 1 ≤ n → n ≤ 64 → Writable n t → Gives n t (read_plan (plan_sheet n t))
sheet_reads_back n t a b h = subst (Gives n t) (sym (head_reads ((2 * n * n) / 256) ((2 * n * n) % 256) n (table_bytes t (range 0 n) (range 0 n)) a b (omega arith) (length_table t n 0 n))) (refl, table_back n t h)

pub sheet_length : (n : ℕ) (t : Table) → length (plan_sheet n t) ≡ need n
sheet_length n t = length-append (plan_head n) (table_bytes t (range 0 n) (range 0 n)) ∙ ap (λ x. 12 + x) (length_table t n 0 n)

-- ---- a plan has one sheet

pub err_ok : {X F : Type 0} {f : F} {x : X} → ◌≡◌ {A = Result X F} (Err f) (Ok x) → ⊥
err_ok e = let z : ◌≡◌ {A = ℕ} 0 1 = cc in omega arith

unless_ok : {X F : Type 0} (o : Option F) (a : Result X F) (x : X) → unless o a ≡ Ok x → (o ≡ None) × (a ≡ Ok x)
unless_ok None a x e = (refl, e)
unless_ok (Some f) a x e = absurd (err_ok e)

only_ok : {X : Type 0} (b : Bool) (f : Fault) (a : Result X Fault) (x : X) → only_if b f a ≡ Ok x → (b ≡ true) × (a ≡ Ok x)
only_ok true f a x e = (refl, e)
only_ok false f a x e = absurd (err_ok e)

ok_same : {X F : Type 0} (x y : X) → ◌≡◌ {A = Result X F} (Ok x) (Ok y) → x ≡ y
ok_same x y e = cc

-- what a plan sheet that is read keeps to
record PlanParts (s : List ℕ) (p : Plan) : Type 0 where
  count : byte s 0 ≡ 2
  first : byte s 1 ≡ 78
  second : byte s 6 ≡ 80
  start : (line s 0).start ≡ 11
  size : (line s 0).size ≡ 1
  next : (line s 1).start ≡ 12
  whole : 12 + (line s 1).size ≡ length s
  cells : (line s 1).size ≡ 2 * byte s 11 * byte s 11
  is : record { nodes = byte s 11; cells = drop 12 s } ≡ p

plan_parts : (s : List ℕ) (p : Plan) → read_plan s ≡ Ok p → PlanParts s p
plan_parts s p e =
    let a = unless_ok (sheet_fault plan_letters s) _ p e in
    let f = fine plan_letters s a.0 in
    let start : (line s 0).start ≡ 11 = eqb-true _ _ (f.places 0 (lit< tt)) in
    let size : (line s 0).size ≡ 1 = eqb-true _ _ (f.sizes 0 (lit< tt)) in
    let next : (line s 1).start ≡ 12 = eqb-true (line s 1).start (11 + (line s 0).size) (f.places 1 (lit< tt)) ∙ ap (λ x. 11 + x) size in
    let whole : 12 + (line s 1).size ≡ length s = ap (λ x. 11 + x + (line s 1).size) (sym size) ∙ f.ended in
    let n : byte (body s (line s 0)) 0 ≡ byte s 11 = ap₂ (λ b l. byte (take l (drop b s)) 0) start size ∙ get_or-take 1 (drop 11 s) 0 0 (omega arith) ∙ get_or-drop 11 s 0 0 in
    let all : body s (line s 1) ≡ drop 12 s = ap (λ b. take (line s 1).size (drop b s)) next ∙ take_all (line s 1).size (drop 12 s) (simp length-drop (omega arith)) in
    let c = only_ok (eqb (length (body s (line s 1))) (2 * byte (body s (line s 0)) 0 * byte (body s (line s 0)) 0)) PlanSize _ p (only_ok _ NodeCount _ p a.1).1 in
    record {
      count = f.whole.count;
      first = sym (get_or-drop 1 s 0 0) ∙ eqb-true _ _ (f.letters 0 (lit< tt));
      second = sym (get_or-drop 6 s 0 0) ∙ eqb-true _ _ (f.letters 1 (lit< tt));
      start = start;
      size = size;
      next = next;
      whole = whole;
      cells = sym (length_body plan_letters s f 1 (lit< tt)) ∙ eqb-true _ _ c.0 ∙ ap (λ x. 2 * x * x) n;
      is = subst₂ (λ (x : ℕ) (y : List ℕ). record { nodes = x; cells = y } ≡ p) n all (ok_same _ p c.1);
    }

-- the bytes of the cells that a list of bytes has are that list
cell_bytes_of : (c v : ℕ) → cell_bytes (cell_of c v) ≡ c ∷ v ∷ []
cell_bytes_of c v = go (eqb c 255) refl (eqb v 255) refl
  where
    go : (a : Bool) → eqb c 255 ≡ a → (b : Bool) → eqb v 255 ≡ b → cell_bytes (cell_of c v) ≡ c ∷ v ∷ []
    go true p true q = rw (p, q, cell_of) (ap₂ (λ (x y : ℕ). x ∷ y ∷ []) (sym (eqb-true c 255 p)) (sym (eqb-true v 255 q)))
    go true p false q = rw (p, q, cell_of) refl
    go false p b q = rw (p, cell_of) refl

two_more : (xs : List ℕ) (i : ℕ) → i + 2 ≤ length xs → byte xs i ∷ byte xs (i + 1) ∷ drop (i + 2) xs ≡ drop i xs
two_more xs i l =
    let e : i + 1 + 1 ≡ i + 2 = omega arith in
    ap (λ (j : ℕ). byte xs i ∷ byte xs (i + 1) ∷ drop j xs) (sym e)
    ∙ ap (λ (ys : List ℕ). byte xs i ∷ ys) (sym (drop_more xs (i + 1) 0 (omega arith)))
    ∙ sym (drop_more xs i 0 (omega arith))

row_same : (s : Plan) (d m k : ℕ) → 2 * (s.nodes * d + m + k) ≤ length s.cells
    → row_bytes (cells_in s) d (range m k) ++ drop (2 * (s.nodes * d + m + k)) s.cells ≡ drop (2 * (s.nodes * d + m)) s.cells
row_same s d m zero l = let e : 2 * (s.nodes * d + m + 0) ≡ 2 * (s.nodes * d + m) = omega arith in ap (λ x. drop x s.cells) e
row_same s d m (suc k) l =
    let i : ℕ = 2 * (s.nodes * d + m) in
    let x : Cell = cells_in s d m in
    let e : 2 * (s.nodes * d + m + suc k) ≡ 2 * (s.nodes * d + suc m + k) = omega arith in
    let f : 2 * (s.nodes * d + suc m) ≡ i + 2 = omega arith in
    append_assoc (cell_bytes x) _ _
    ∙ ap (λ (j : ℕ). cell_bytes x ++ (row_bytes (cells_in s) d (range (suc m) k) ++ drop j s.cells)) e
    ∙ ap (λ (ys : List ℕ). cell_bytes x ++ ys) (row_same s d (suc m) k (omega arith))
    ∙ ap₂ (λ (ys : List ℕ) (j : ℕ). ys ++ drop j s.cells) (cell_bytes_of (byte s.cells i) (byte s.cells (i + 1))) f
    ∙ two_more s.cells i (omega arith)

table_same : (s : Plan) (d k : ℕ) → 2 * (s.nodes * (d + k)) ≤ length s.cells
    → table_bytes (cells_in s) (range 0 s.nodes) (range d k) ++ drop (2 * (s.nodes * (d + k))) s.cells ≡ drop (2 * (s.nodes * d)) s.cells
table_same s d zero l = let e : d + 0 ≡ d = omega arith in ap (λ x. drop (2 * (s.nodes * x)) s.cells) e
table_same s d (suc k) l =
    let n : ℕ = s.nodes in
    let e : d + suc k ≡ suc d + k = omega arith in
    let f : 2 * (n * suc d) ≡ 2 * (n * d + 0 + n) = omega (arith, mul-suc n d) in
    let g : 2 * (n * d + 0) ≡ 2 * (n * d) = omega arith in
    append_assoc (row_bytes (cells_in s) d (range 0 n)) _ _
    ∙ ap (λ (j : ℕ). row_bytes (cells_in s) d (range 0 n) ++ (table_bytes (cells_in s) (range 0 n) (range (suc d) k) ++ drop (2 * (n * j)) s.cells)) e
    ∙ ap (λ (ys : List ℕ). row_bytes (cells_in s) d (range 0 n) ++ ys) (table_same s (suc d) k (subst (λ j. 2 * (n * j) ≤ length s.cells) e l))
    ∙ ap (λ (j : ℕ). row_bytes (cells_in s) d (range 0 n) ++ drop j s.cells) f
    ∙ row_same s d 0 n (omega (arith, mul-add n d (suc k), mul-suc n k))
    ∙ ap (λ (j : ℕ). drop j s.cells) g

whole_table : (s : Plan) → length s.cells ≡ 2 * s.nodes * s.nodes → table_bytes (cells_in s) (range 0 s.nodes) (range 0 s.nodes) ≡ s.cells
whole_table s l =
    let n : ℕ = s.nodes in
    let e : 2 * (n * (0 + n)) ≡ length s.cells = ap (λ x. 2 * (n * x)) (zero-add n) ∙ sym (mul_assoc 2 n n) ∙ sym l in
    let f : 2 * (n * 0) ≡ 0 = omega (arith, mul-zero n) in
    sym (append-nil _)
    ∙ ap (λ (ys : List ℕ). table_bytes (cells_in s) (range 0 n) (range 0 n) ++ ys) (sym (drop_all (2 * (n * (0 + n))) s.cells (omega arith)))
    ∙ table_same s 0 n (omega arith)
    ∙ ap (λ (j : ℕ). drop j s.cells) f

-- the first k bytes from i on, one by one
fronts : (s : List ℕ) (i k : ℕ) → i + k ≤ length s → drop i s ≡ map (byte s) (range i k) ++ drop (i + k) s
fronts s i zero l = let e : i ≡ i + 0 = omega arith in ap (λ j. drop j s) e
fronts s i (suc k) l =
    let e : i + 1 ≡ suc i = omega arith in
    let f : suc i + k ≡ i + suc k = omega arith in
    drop_more s i 0 (omega arith)
    ∙ ap (λ (j : ℕ). byte s i ∷ drop j s) e
    ∙ ap (λ (ys : List ℕ). byte s i ∷ ys) (fronts s (suc i) k (omega arith))
    ∙ ap (λ (j : ℕ). byte s i ∷ (map (byte s) (range (suc i) k) ++ drop j s)) f

-- two bytes that say a number are its digits
two_digits : (a b n : ℕ) → a < 256 → b < 256 → 256 * a + b ≡ n → (a ≡ n / 256) × (b ≡ n % 256)
two_digits a b n h k e = (omega arith, omega arith)

same_sheet : (s : List ℕ) (p : Plan) → ((i : ℕ) → byte s i < 256) → PlanParts s p → plan_sheet (byte s 11) (cells_in (record { nodes = byte s 11; cells = drop 12 s })) ≡ s
same_sheet s p small q = go _ (whole_table (record { nodes = byte s 11; cells = drop 12 s }) (length-drop 12 s ∙ omega (arith, q.whole, q.cells)))
  where
    -- the number in the bytes i and i + 1 of a line
    digits : (k i n : ℕ) → 256 * byte (drop k s) i + byte (drop k s) (i + 1) ≡ n → (byte s (k + i) ≡ n / 256) × (byte s (k + (i + 1)) ≡ n % 256)
    digits k i n e = two_digits _ _ n (small (k + i)) (small (k + (i + 1))) (ap₂ (λ x y. 256 * x + y) (sym (get_or-drop k s i 0)) (sym (get_or-drop k s (i + 1) 0)) ∙ e)

    all : s ≡ map (byte s) (range 0 12) ++ drop 12 s
    all = fronts s 0 12 (omega (arith, q.whole))

    go : (table : List ℕ) → table ≡ drop 12 s → plan_head (byte s 11) ++ table ≡ s
    go table e =
        let a = digits 1 1 11 q.start in
        let b = digits 1 3 1 q.size in
        let c = digits 6 1 12 q.next in
        let d = digits 6 3 (2 * byte s 11 * byte s 11) q.cells in
        cc (a.0, a.1, b.0, b.1, c.0, c.1, d.0, d.1, q.count, q.first, q.second, all)

pub one_sheet : (s : List ℕ) (p : Plan) → ((i : ℕ) → byte s i < 256) → read_plan s ≡ Ok p → plan_sheet p.nodes (cells_in p) ≡ s
one_sheet s p small e = let q = plan_parts s p e in subst (λ (x : Plan). plan_sheet x.nodes (cells_in x) ≡ s) q.is (same_sheet s p small q)
