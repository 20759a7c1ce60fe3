-- The reports of both problems about a program's cells.
use Rattle.std.proofs.Common.{◌≡◌, ℕ, ◌+◌, ◌-◌, ◌<◌, ◌≤◌, List, ◌++◌, length, vec_items, replicate, refl, ap, ◌∙◌, subst, true, arith}
use borrow.Rule.Slice.PartMut.{put_mid, mid_of}
use Rattle.std.specs.Str.{IsUtf8}
use Rattle.std.proofs.lemmas.Str.{IsUtf8-append}
use Rattle.flow.specs.Choices.{starts_of}
use Rattle.flow.specs.declared.choice.Choice.{Choice}
use Rattle.flow.specs.declared.choice.Choice.TheVariants.{Unset, Raw}
use Rattle.listing.specs.Lawful.{is_lawful}
use Rattle.listing.specs.Meaning.{Meaning}
use Rattle.paths.specs.Handing.{posed}
use Rattle.paths.specs.Law.{Reported}
use Rattle.paths.specs.Memory.{blank}
use Rattle.starts.proofs.Defaults.{default_starts}
use Rattle.findings.specs.Outcome.{opened}
use Rattle.page.specs.Writes.{Put, Kept}
use Rattle.table.specs.Told.{Memory}
use Rattle.findings.proofs.Fronts.{short_kept, behind_kept, behind_put, returned_twice}
use Rattle.findings.specs.Told.{Tells, room_in}
use Rattle.findings.specs.Written.{taken, Returned}
use Rattle.findings.specs.Listed.{told_in, both_told, taken_of, Exact, Told}
use Rattle.findings.specs.declared.room.Room.{Room}

module _ (m : Meaning) (g l : ℕ) (room : Room) (globals : g ≡ m.globals) (locals : l ≡ m.locals) where
  -- what is told, with the counts of the program
  told_same : (choice : Choice) → told_in choice g l m room ≡ told_in choice m.globals m.locals m room
  told_same choice = ap (λ (x : ℕ). told_in choice x l m room) globals ∙ ap (λ (x : ℕ). told_in choice m.globals x m room) locals

  exact : is_lawful m ≡ true → (choice : Choice) → Tells (posed choice g l m) (starts_of choice g l) room → Exact choice m room
  exact lawful choice t = λ report e.
      let s : Tells (posed choice m.globals m.locals m) (starts_of choice m.globals m.locals) room =
      subst (λ (x : ℕ). Tells (posed choice m.globals x m) (starts_of choice m.globals x) room) locals
      (subst (λ (x : ℕ). Tells (posed choice x l m) (starts_of choice x l) room) globals t) in
      subst (λ (xs : List (ℕ × ℕ)). Reported (posed choice m.globals m.locals m) xs report)
      (default_starts choice m lawful (opened (posed choice m.globals m.locals m) (replicate room.records blank)) refl refl)
      (s.exact report e)

  -- what is told of both
  both_same : told_in Unset g l m room ++ told_in Raw g l m room ≡ both_told m room
  both_same = ap (λ (x : List ℕ). x ++ told_in Raw g l m room) (told_same Unset) ∙ ap (λ (x : List ℕ). told_in Unset m.globals m.locals m room ++ x) (told_same Raw)

  -- the records that the tables take
  taken_same : (choice : Choice) (k : ℕ) → taken (posed choice g l m) k ≡ taken_of m k
  taken_same choice k =
      ap (λ (x : ℕ). taken (posed choice x l m) k) globals ∙ ap (λ (x : ℕ). taken (posed choice m.globals x m) k) locals

  pub both : is_lawful m ≡ true → Tells (posed Unset g l m) (starts_of Unset g l) room → Tells (posed Raw g l m) (starts_of Raw g l) room → Told room m (both_told m room)
  both lawful unset raw = record { parts = refl; exact = of }
    where
      of : (choice : Choice) → Exact choice m room
      of Unset = exact lawful Unset unset
      of Raw = exact lawful Raw raw

module _ (m : Meaning) (g l : ℕ) (globals : g ≡ m.globals) (locals : l ≡ m.locals) (most : ℕ) (a b : Memory) (first : Returned (taken (posed Unset g l m) (length (vec_items a))) a b) where
  -- a memory that has as many records gives the same room
  abbrev room : Room
  room = room_in a most

  -- how many records are taken
  abbrev used : ℕ
  used = taken_of m (length (vec_items a))

  abbrev raw : List ℕ
  raw = told_in Raw g l m room

  abbrev unset : List ℕ
  unset = told_in Unset g l m room

  pub came_first : Returned used a b
  came_first = subst (λ (k : ℕ). Returned k a b) (taken_same m g l room globals locals Unset (length (vec_items a))) first

  -- a memory that comes back from it, and what comes back from that
  module _ (choice : Choice) (x y : Memory) (before : Returned used a x) where
    pub came_then : Returned (taken (posed choice g l m) (length (vec_items x))) x y → Returned used a y
    came_then r =
        returned_twice used a x y before
        (subst (λ (k : ℕ). Returned k x y) (ap (taken (posed choice g l m)) before.count ∙ taken_same m g l room globals locals choice (length (vec_items a))) r)

  -- the room is the same in such a memory
  pub room_stays : (x : Memory) → Returned used a x → room_in x most ≡ room
  room_stays x r = ap (λ (n : ℕ). record { records = n; page = most }) r.count

  module _ (page part' : List ℕ) (start : ℕ) (begins : start ≡ length unset) where
    -- the page is too short for the first
    pub too_short : length page < start → Kept (both_told m room) page page
    too_short h = subst (λ (x : List ℕ). Kept x page page) (both_same m g l room globals locals) (short_kept unset raw page (omega arith))

    module _ (within : start ≤ length page) where
      -- for the second behind it
      pub no_room : Kept (told_in Raw g l m (room_in b most)) (mid_of start (length page - start) page) part' → Kept (both_told m room) page (put_mid start (length page - start) page part')
      no_room k =
          subst (λ (x : List ℕ). Kept x page (put_mid start (length page - start) page part')) (both_same m g l room globals locals)
          (behind_kept unset raw page part' start begins within
          (subst (λ (r : Room). Kept (told_in Raw g l m r) (mid_of start (length page - start) page) part') (room_stays b came_first) k))

      -- both are written
      pub both_put : (c : Memory) (page' : List ℕ) (j k : ℕ) → Returned used a c → Put (told_in Raw g l m (room_in b most)) (mid_of start (length page - start) page) j part'
          → Put (told_in Unset g l m (room_in c most)) (put_mid start (length page - start) page part') k page' → Put (both_told m room) page (start + j) page'
      both_put c page' j k r p q =
          subst (λ (x : List ℕ). Put x page (start + j) page') (both_same m g l room globals locals)
          (behind_put unset raw page part' start begins within page' j k
          (subst (λ (x : Room). Put (told_in Raw g l m x) (mid_of start (length page - start) page) j part') (room_stays b came_first) p)
          (subst (λ (x : Room). Put (told_in Unset g l m x) (put_mid start (length page - start) page part') k page') (room_stays c r) q))

  -- both are texts
  pub both_utf8 : (c : Memory) → Returned used a c → IsUtf8 (told_in Raw g l m (room_in b most)) → IsUtf8 (told_in Unset g l m (room_in c most)) → IsUtf8 (both_told m room)
  both_utf8 c r p q =
      subst IsUtf8 (both_same m g l room globals locals)
      (IsUtf8-append unset raw (subst (λ (x : Room). IsUtf8 (told_in Unset g l m x)) (room_stays c r) q)
      (subst (λ (x : Room). IsUtf8 (told_in Raw g l m x)) (room_stays b came_first) p))

  -- and exact
  pub both_exact : (c : Memory) → Returned used a c → is_lawful m ≡ true → Tells (posed Raw g l m) (starts_of Raw g l) (room_in b most) → Tells (posed Unset g l m) (starts_of Unset g l) (room_in c most)
      → Told room m (both_told m room)
  both_exact c r lawful p q =
      both m g l room globals locals lawful (subst (Tells (posed Unset g l m) (starts_of Unset g l)) (room_stays c r) q)
      (subst (Tells (posed Raw g l m) (starts_of Raw g l)) (room_stays b came_first) p)
