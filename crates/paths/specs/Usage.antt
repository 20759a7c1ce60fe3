-- How a caller comes to the law: what it may carry from call to call, as a loop's invariant does.
use Rattle.std.specs.Prelude.{◌≡◌, ℕ, List, [], ◌∷◌, take}
use Rattle.paths.specs.declared.worklist.End.{End}
use Rattle.paths.specs.Tabled.{Tabled}
use Rattle.paths.specs.Does.{Handed, Answer, gives, refuses, Report, State, Open, Closed, Begun, begun, Sows, Works, Closes, Lines, Foots, Trails, Call, Newly, Row}
use Rattle.paths.specs.Law.{accepted, OnePage, Reported, Told, Sound}

-- some row of calls that accepted the starts led to s
pub record Standing (H : Handed) (first : Tabled) (starts : List (ℕ × ℕ)) (s : State) : Type 0 where
  pub calls : List Call
  pub row : Row H first calls s
  pub starts_are : accepted calls ≡ starts

-- some such row led to the report r, whose lines are all on this page
pub record OnPage (H : Handed) (first : Tabled) (starts : List (ℕ × ℕ)) (r : Report) (page : List ℕ) : Type 0 where
  pub calls : List Call
  pub row : Row H first calls (Begun r)
  pub starts_are : accepted calls ≡ starts
  pub one : OnePage calls page

-- what each of the nine calls does to what a caller carries; of a report also where its lines may lie on several pages
pub record Usage (H : Handed) (first : Tabled) : Type 0 where
  pub opened : Standing H first [] (Open first)
  pub sown : (starts : List (ℕ × ℕ)) (p d k : ℕ) (t t' : Tabled) → Standing H first starts (Open t) → Sows H p d t (gives k) t'
      → Standing H first ((p, d) ∷ starts) (Open t')
  pub not_sown : (starts : List (ℕ × ℕ)) (p d q : ℕ) (t t' : Tabled) → Standing H first starts (Open t) → Sows H p d t (refuses q) t'
      → Standing H first starts (Open t')
  pub worked : (starts : List (ℕ × ℕ)) (k : ℕ) (end : End) (answer : Answer) (t t' : Tabled) → Standing H first starts (Open t)
      → Works H k end t answer t' → Standing H first starts (Open t')
  pub closed : (starts : List (ℕ × ℕ)) (answer : Answer) (t : Tabled) (s : State) → Standing H first starts (Open t) → Closes t answer s
      → Standing H first starts s
  pub reopened : (starts : List (ℕ × ℕ)) (t : Tabled) → Standing H first starts (Closed t) → Standing H first starts (Open t)
  pub begins : (starts : List (ℕ × ℕ)) (t : Tabled) (page : List ℕ) → Standing H first starts (Closed t) → OnPage H first starts (begun t) page
  pub lined : (starts : List (ℕ × ℕ)) (r r' : Report) (answer : Answer) (page page' : List ℕ) → OnPage H first starts r page
      → Lines r page answer page' r' → OnPage H first starts r' page'
  pub footed : (starts : List (ℕ × ℕ)) (r : Report) (s : State) (end : ℕ) (page page' : List ℕ) → OnPage H first starts r page
      → Foots r page (gives end) page' s → Reported H starts (take end page') × Standing H first starts s
  pub begins_report : (starts : List (ℕ × ℕ)) (t : Tabled) → Standing H first starts (Closed t) → Standing H first starts (Begun (begun t))
  pub on_page : (starts : List (ℕ × ℕ)) (r : Report) (page : List ℕ) → OnPage H first starts r page → Standing H first starts (Begun r)
  pub lined_anywhere : (starts : List (ℕ × ℕ)) (r r' : Report) (answer : Answer) (page page' : List ℕ) → Standing H first starts (Begun r)
      → Lines r page answer page' r' → Standing H first starts (Begun r')
  pub footed_anywhere : (starts : List (ℕ × ℕ)) (r : Report) (s : State) (answer : Answer) (page page' : List ℕ) → Standing H first starts (Begun r)
      → Foots r page answer page' s → Standing H first starts s
  pub abandoned : (starts : List (ℕ × ℕ)) (r : Report) → Standing H first starts (Begun r) → Standing H first starts (Closed r.table)
  pub trailed : (starts : List (ℕ × ℕ)) (t : Tabled) (n d room : ℕ) (answer : Answer) (memory memory' : List ℕ) → Standing H first starts (Closed t)
      → Trails t n d memory room answer memory' → Told H starts n d answer memory room memory'

-- from a newly opened table on, a caller may carry this
abbrev pub Usable : Type 0
Usable = (H : Handed) → Sound H → (first : Tabled) → Newly H first → Usage H first
