-- What finding keeps, over several findings.
use Rattle.std.proofs.Common.{◌≡◌, ℕ, ◌*◌, ◌<◌, drop, vec_items, sym, refl, ap, ◌∙◌, arith}
use Rattle.paths.specs.Table.{number_of}
use Rattle.table.specs.Settling.{Stands, CallStands, EntryStands, ReturnStands}
use Rattle.table.specs.Records.{at}
use Rattle.table.specs.State.{cell_of, spare, Kept, Moved, Led, Found}
use Rattle.table.specs.declared.sites.Site.{Site}
use Rattle.table.specs.declared.sites.CallSite.{CallSite}
use Rattle.table.specs.declared.sites.Lead.{Lead}
use Rattle.table.specs.declared.sites.Lead.TheVariants.{Start, Step, Past, Call, Return}
use Rattle.table.specs.declared.sites.ReturnSite.{ReturnSite}
use Rattle.table.specs.declared.state.Core.{Core}

pub kept_same : (s : Core) → Kept s s
kept_same s = record { points = refl; facts = refl; size = refl; settled = refl; spare = refl; stays = λ c h. h }

pub kept_then : (s t u : Core) → Kept s t → Kept t u → Kept s u
kept_then s t u h k = record {
  points = k.points ∙ h.points;
  facts = k.facts ∙ h.facts;
  size = k.size ∙ h.size;
  settled = k.settled ∙ h.settled;
  spare = k.spare ∙ h.spare;
  stays = λ c f. k.stays c (h.stays c f);
}

pub found_still : (s t : Core) (c : ℕ) → Kept s t → Found s c → Found t c
found_still s t c k f = record { within = omega (arith, f.within, k.size); ranked = k.stays c f.ranked }

pub block_still : (s t : Core) (b : ℕ) → Kept s t → b < s.points * s.facts → b < t.points * t.facts
block_still s t b k h =
    let e : s.points * s.facts ≡ t.points * t.facts = ap (λ (n : ℕ). n * s.facts) (sym k.points) ∙ ap (λ (f : ℕ). t.points * f) (sym k.facts) in
    omega arith

pub led_still : (s t : Core) (by : Lead) → Kept s t → Led s by → Led t by
led_still s t Start k l = tt
led_still s t (Step u) k l = found_still s t u k l
led_still s t (Past u) k l = found_still s t u k l
led_still s t (Call u) k l = found_still s t u k l
led_still s t (Return u v) k l = (found_still s t u k l.0, found_still s t v k l.1)

pub stands_still : (s t : Core) (x : Site) → Kept s t → Stands s x → Stands t x
stands_still s t x k h = record {
  inside = record {
    point = omega (arith, h.inside.point, k.points);
    origin = omega (arith, h.inside.origin, k.facts);
    fact = omega (arith, h.inside.fact, k.facts);
  };
  number = h.number ∙ ap (λ (f : ℕ). number_of f (cell_of x.spot)) (sym k.facts);
  found = found_still s t x.cell k h.found;
}

pub call_still : (s t : Core) (x : CallSite) → Kept s t → CallStands s x → CallStands t x
call_still s t x k h = record {
  site = stands_still s t x.site k h.site;
  next = omega (arith, k.points, h.next);
  callee = record { entry = omega (arith, k.points, h.callee.entry); exit = omega (arith, k.points, h.callee.exit) };
}

pub entry_still : (s t : Core) (x : CallSite) (e : ℕ) → Kept s t → EntryStands s x e → EntryStands t x e
entry_still s t x e k h = record { call = call_still s t x k h.call; fact = omega (arith, k.facts, h.fact) }

pub return_still : (s t : Core) (x : ReturnSite) → Kept s t → ReturnStands s x → ReturnStands t x
return_still s t x k h = record { exit = stands_still s t x.exit k h.exit; next = omega (arith, k.points, h.next) }

-- what is found stays where only the row's ends moved, and so does the memory behind the cells
pub found_moved : (s t : Core) (c : ℕ) → Moved s t → Found s c → Found t c
found_moved s t c v f = record {
  within = omega (arith, f.within, v.size);
  ranked = (let e : (at (vec_items t.records) c).rank ≡ (at (vec_items s.records) c).rank = ap (λ r. (at (vec_items r) c).rank) v.records in omega (arith, f.ranked));
}

pub spare_moved : (s t : Core) → Moved s t → spare t ≡ spare s
spare_moved s t v = ap (λ (k : ℕ). drop k (vec_items t.records)) v.size ∙ ap (λ r. drop s.size (vec_items r)) v.records
