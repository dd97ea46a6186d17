-- Laws of fields: what writing one does to another, and that fields made of lawful ones are lawful. What a whole keeps, a session's
-- `sound_written` and `written_sound`, are the laws `again` and `back` of the field that is all of it.
-- Assumes nothing.
use Rattle.std.specs.Prelude.{◌≡◌, Bool, false, ◌&&◌, ◌||◌, List, ◌⊎◌, ℕ, ◌<◌, ◌≤◌, length}
use Rattle.std.proofs.Math.Path.{refl, ap}
use Rattle.std.proofs.Common.{sym, ◌∙◌, inl, inr, arith}
use Rattle.std.proofs.Math.Bool.{true, cond}
use Rattle.scan.specs.Scan.{byte_at}
use Rattle.fields.specs.BoolLaws.{and_both, and_of, or_either, or_neither}
use Rattle.fields.specs.Field.{Field, Bytes, SameIn, Lawful, then_field, both, guarded, formed_as, only}

-- two fields --------------------------------------------------------------------------------------------------------------------------------

-- writing a value changes no byte outside the field's place
pub outside : {A : Type 0} (f : Field A) → Lawful f → (x : A) (b : List ℕ) → f.ok x ≡ true → (i : ℕ) → (i < f.from) ⊎ (f.to ≤ i) →
    byte_at (f.write x b) i ≡ byte_at b i
outside f l x b k i h = go (f.uses x i) refl h
  where
    go : (u : Bool) → f.uses x i ≡ u → (i < f.from) ⊎ (f.to ≤ i) → byte_at (f.write x b) i ≡ byte_at b i
    go true e (inl q) = absurd (omega (arith, (l.inside x k i e).0))
    go true e (inr q) = absurd (omega (arith, (l.inside x k i e).1))
    go false e q = l.keeps x b k i e

-- writing one field leaves those apart from it as they are: one law for every two fields
pub apart : {A B : Type 0} (f : Field A) (g : Field B) → Lawful f → Lawful g → (f.to ≤ g.from) ⊎ (g.to ≤ f.from) → (x : A) (b : List ℕ) → f.ok x ≡ true →
    (g.test (f.write x b) ≡ g.test b) × (g.read (f.write x b) ≡ g.read b)
apart f g l m h x b k = m.looks (f.write x b) b (l.size x b) (same h)
  where
    same : (f.to ≤ g.from) ⊎ (g.to ≤ f.from) → SameIn g.from g.to (f.write x b) b
    same (inl h) i p q = outside f l x b k i (inr (omega arith))
    same (inr h) i p q = outside f l x b k i (inl (omega arith))

-- one behind the other ------------------------------------------------------------------------------------------------------------------------

module _ {A B : Type 0} (f : Field A) (g : A → Field B) (to : ℕ) (l : Lawful f) (m : (x : A) → Lawful (g x)) (h : (x : A) → f.to ≤ (g x).from) (e : (x : A) → (g x).to ≤ to) (s : f.to ≤ to) where
  pub then_lawful : Lawful (then_field f g to)
  unfolding then_field
  then_lawful = record {
    span = omega (arith, l.span, s);
    size = λ x b. (m x.0).size x.1 (f.write x.0 b) ∙ l.size x.0 b;
    looks = looks;
    formed = λ b z w t.
        let p = and_both (f.test b) ((g (f.read b)).test b) t in
        and_of (l.formed b (omega arith) w p.0) ((m (f.read b)).formed b (omega (arith, e (f.read b))) w p.1);
    again = λ b z w t.
        let p = and_both (f.test b) ((g (f.read b)).test b) t in
        ap ((g (f.read b)).write ((g (f.read b)).read b)) (l.again b (omega arith) w p.0) ∙ (m (f.read b)).again b (omega (arith, e (f.read b))) w p.1;
    back = back;
    inside = λ x k i u.
        let p = and_both (f.ok x.0) ((g x.0).ok x.1) k in
        within x i p.0 p.1 (or_either (f.uses x.0 i) ((g x.0).uses x.1 i) u);
    keeps = λ x b k i u.
        let p = and_both (f.ok x.0) ((g x.0).ok x.1) k in
        let n = or_neither (f.uses x.0 i) ((g x.0).uses x.1 i) u in
        (m x.0).keeps x.1 (f.write x.0 b) p.1 i n.1 ∙ l.keeps x.0 b p.0 i n.0;
    fixed = λ x a b y z k i u. fixed x a b y z k i ((g x.0).uses x.1 i) refl u;
    alike = alike;
  }
    where
      within : (x : A × B) (i : ℕ) → f.ok x.0 ≡ true → (g x.0).ok x.1 ≡ true → (f.uses x.0 i ≡ true) ⊎ ((g x.0).uses x.1 i ≡ true) → (f.from ≤ i) × (i < to)
      within x i p q (inl u) = let r = l.inside x.0 p i u in (r.0, omega (arith, r.1))
      within x i p q (inr u) = let r = (m x.0).inside x.1 q i u in (omega (arith, r.0, h x.0, l.span), omega (arith, r.1, e x.0))

      looks : (a b : List ℕ) → length a ≡ length b → SameIn f.from to a b →
          (f.test a && (g (f.read a)).test a ≡ f.test b && (g (f.read b)).test b) × (◌≡◌ {A = A × B} (f.read a, (g (f.read a)).read a) (f.read b, (g (f.read b)).read b))
      looks a b q k =
          let p = l.looks a b q (λ i u v. k i u (omega arith)) in
          let x = f.read b in
          let r = (m x).looks a b q (λ i u v. k i (omega (arith, h x, l.span)) (omega (arith, e x))) in (
            ap (λ y. f.test a && (g y).test a) p.1 ∙ ap (λ t. t && (g x).test a) p.0 ∙ ap (λ t. f.test b && t) r.0,
            ap (λ y. (y, (g y).read a)) p.1 ∙ ap (λ y. (x, y)) r.1,
          )

      back : (x : A × B) (b : List ℕ) → to ≤ length b → f.ok x.0 && (g x.0).ok x.1 ≡ true →
          (f.test ((g x.0).write x.1 (f.write x.0 b)) && (g (f.read ((g x.0).write x.1 (f.write x.0 b)))).test ((g x.0).write x.1 (f.write x.0 b)) ≡ true)
          × (◌≡◌ {A = A × B} (f.read ((g x.0).write x.1 (f.write x.0 b)), (g (f.read ((g x.0).write x.1 (f.write x.0 b)))).read ((g x.0).write x.1 (f.write x.0 b))) x)
      back x b z k =
          let y = x.0 in
          let p = and_both (f.ok y) ((g y).ok x.1) k in
          let c = f.write y b in
          let d = (g y).write x.1 c in
          let r = (m y).back x.1 c (omega (arith, e y, l.size y b)) p.1 in
          let q = l.back y b (omega arith) p.0 in
          let t = apart (g y) f (m y) l (inr (h y)) x.1 c p.1 in
          let u : f.read d ≡ y = t.1 ∙ q.1 in (
            and_of (t.0 ∙ q.0) (ap (λ v. (g v).test d) u ∙ r.0),
            ap (λ v. (v, (g v).read d)) u ∙ ap (λ v. (y, v)) r.1,
          )

      fixed : (x : A × B) (a b : List ℕ) → to ≤ length a → to ≤ length b → f.ok x.0 && (g x.0).ok x.1 ≡ true → (i : ℕ) (v : Bool) → (g x.0).uses x.1 i ≡ v →
          f.uses x.0 i || (g x.0).uses x.1 i ≡ true → byte_at ((g x.0).write x.1 (f.write x.0 a)) i ≡ byte_at ((g x.0).write x.1 (f.write x.0 b)) i
      fixed x a b y z k i true v u =
          let p = and_both (f.ok x.0) ((g x.0).ok x.1) k in
          (m x.0).fixed x.1 (f.write x.0 a) (f.write x.0 b) (omega (arith, e x.0, l.size x.0 a)) (omega (arith, e x.0, l.size x.0 b)) p.1 i v
      fixed x a b y z k i false v u =
          let p = and_both (f.ok x.0) ((g x.0).ok x.1) k in
          let used = first (f.uses x.0 i) (ap (λ t. f.uses x.0 i || t) (sym v) ∙ u) in
          (m x.0).keeps x.1 (f.write x.0 a) p.1 i v
          ∙ l.fixed x.0 a b (omega arith) (omega arith) p.0 i used
          ∙ sym ((m x.0).keeps x.1 (f.write x.0 b) p.1 i v)
        where
          first : (t : Bool) → t || false ≡ true → t ≡ true
          first true j = refl
          first false j = j

      alike : (a b : List ℕ) → to ≤ length a → Bytes a → length a ≡ length b → f.test a && (g (f.read a)).test a ≡ true →
          ((i : ℕ) → f.uses (f.read a) i || (g (f.read a)).uses ((g (f.read a)).read a) i ≡ true → byte_at a i ≡ byte_at b i) →
          (f.test b && (g (f.read b)).test b ≡ true) × (◌≡◌ {A = A × B} (f.read b, (g (f.read b)).read b) (f.read a, (g (f.read a)).read a))
      alike a b z w q t u =
          let p = and_both (f.test a) ((g (f.read a)).test a) t in
          let x = f.read a in
          let r = l.alike a b (omega arith) w q p.0 (λ i v. u i (rw v)) in
          let c = (m x).alike a b (omega (arith, e x)) w q p.1 (λ i v. u i (rw v (either (f.uses x i)))) in (
            and_of r.0 (ap (λ y. (g y).test b) r.1 ∙ c.0),
            ap (λ y. (y, (g y).read b)) r.1 ∙ ap (λ y. (x, y)) c.1,
          )
        where
          either : (t : Bool) → t || true ≡ true
          either true = refl
          either false = refl

-- two fields that do not depend on one another
pub both_lawful : {A B : Type 0} (f : Field A) (g : Field B) → Lawful f → Lawful g → f.to ≤ g.from → Lawful (both f g)
both_lawful f g l m h = then_lawful f (λ x. g) g.to l (λ x. m) (λ x. h) (λ x. omega arith) (omega (arith, m.span))

-- a rule besides, another form, a test before ---------------------------------------------------------------------------------------------------

module _ {A : Type 0} (f : Field A) (l : Lawful f) where
  pub guarded_lawful : (p : A → Bool) → Lawful (guarded f p)
  unfolding guarded
  guarded_lawful p = record {
    span = l.span;
    size = l.size;
    looks = λ a b e s. let q = l.looks a b e s in (ap (λ t. t && p (f.read a)) q.0 ∙ ap (λ x. f.test b && p x) q.1, q.1);
    formed = λ b z w t. let q = and_both (f.test b) (p (f.read b)) t in and_of (l.formed b z w q.0) q.1;
    again = λ b z w t. l.again b z w (and_both (f.test b) (p (f.read b)) t).0;
    back = λ x b z k.
        let q = and_both (f.ok x) (p x) k in
        let r = l.back x b z q.0 in
        (and_of r.0 (ap p r.1 ∙ q.1), r.1);
    inside = λ x k. l.inside x (and_both (f.ok x) (p x) k).0;
    keeps = λ x b k. l.keeps x b (and_both (f.ok x) (p x) k).0;
    fixed = λ x a b y z k. l.fixed x a b y z (and_both (f.ok x) (p x) k).0;
    alike = λ a b z w e t u.
        let q = and_both (f.test a) (p (f.read a)) t in
        let r = l.alike a b z w e q.0 u in
        (and_of r.0 (ap p r.1 ∙ q.1), r.1);
  }

  -- the two forms are the same values where they may be written
  pub formed_lawful : {B : Type 0} (to : A → B) (from : B → A) (ok : B → Bool) → ((x : A) → f.ok x ≡ true → (from (to x) ≡ x) × (ok (to x) ≡ true)) →
      ((y : B) → ok y ≡ true → (to (from y) ≡ y) × (f.ok (from y) ≡ true)) → Lawful (formed_as f to from ok)
  unfolding formed_as
  formed_lawful to from ok e d = record {
    span = l.span;
    size = λ y. l.size (from y);
    looks = λ a b q s. let r = l.looks a b q s in (r.0, ap to r.1);
    formed = λ b z w t. (e (f.read b) (l.formed b z w t)).1;
    again = λ b z w t. ap (λ x. f.write x b) (e (f.read b) (l.formed b z w t)).0 ∙ l.again b z w t;
    back = λ y b z k. let r = l.back (from y) b z (d y k).1 in (r.0, ap to r.1 ∙ (d y k).0);
    inside = λ y k. l.inside (from y) (d y k).1;
    keeps = λ y b k. l.keeps (from y) b (d y k).1;
    fixed = λ y a b u v k. l.fixed (from y) a b u v (d y k).1;
    alike = λ a b z w q t u.
        let r = l.alike a b z w q t (λ i v. u i (ap (λ x. f.uses x i) (e (f.read a) (l.formed a z w t)).0 ∙ v)) in
        (r.0, ap to r.1);
  }

  -- a test that looks at the field's place only, and that all bytes pass which are taken
  pub only_lawful : (q : List ℕ → Bool) (x : A) → ((a b : List ℕ) → length a ≡ length b → SameIn f.from f.to a b → q a ≡ q b) →
      ((b : List ℕ) → f.to ≤ length b → f.test b ≡ true → q b ≡ true) → Lawful (only f q x)
  unfolding only
  only_lawful q x same taken = record {
    span = l.span;
    size = l.size;
    looks = λ a b e s. let r = l.looks a b e s in (
      ap (λ t. t && f.test a) (same a b e s) ∙ ap (λ t. q b && t) r.0,
      ap (λ t. cond t (f.read a) x) (same a b e s) ∙ ap (λ y. cond (q b) y x) r.1,
    );
    formed = λ b z w t. let p = and_both (q b) (f.test b) t in rw p.0 (l.formed b z w p.1);
    again = λ b z w t. let p = and_both (q b) (f.test b) t in rw p.0 (l.again b z w p.1);
    back = λ y b z k.
        let r = l.back y b z k in
        let p = taken (f.write y b) (omega (arith, l.size y b)) r.0 in
        (and_of p r.0, rw p r.1);
    inside = l.inside;
    keeps = l.keeps;
    fixed = l.fixed;
    alike = λ a b z w e t u.
        let p = and_both (q a) (f.test a) t in
        let r = l.alike a b z w e p.1 (λ i v. u i (rw p.0 v)) in
        let o = taken b (omega arith) r.0 in
        (and_of o r.0, rw (o, p.0) r.1);
  }

-- a part of a whole -----------------------------------------------------------------------------------------------------------------------------

-- the field h lies in f: f takes no bytes that h does not take, and a value of h written over bytes that f takes leaves such bytes, in which f
-- holds what `put` says
pub record Part {A B : Type 0} (h : Field A) (f : Field B) (put : A → B → B) : Type 0 where
  pub after : f.from ≤ h.from
  pub before : h.to ≤ f.to
  pub taken : (b : List ℕ) → f.test b ≡ true → h.test b ≡ true
  pub written : (x : A) (b : List ℕ) → f.to ≤ length b → h.ok x ≡ true → f.test b ≡ true → (f.test (h.write x b) ≡ true) × (f.read (h.write x b) ≡ put x (f.read b))

pub part_self : {A : Type 0} (f : Field A) → Lawful f → Part f f (λ x y. x)
part_self f l = record { after = omega arith; before = omega arith; taken = λ b t. t; written = λ x b z k t. l.back x b z k }

module _ {A B C : Type 0} (h : Field A) (f : Field B) (g : Field C) (lh : Lawful h) (lf : Lawful f) (lg : Lawful g) (e : f.to ≤ g.from) where
  pub part_first : (put : A → B → B) → Part h f put → Part h (both f g) (λ x y. (put x y.0, y.1))
  unfolding then_field
  part_first put p = record {
    after = p.after;
    before = omega (arith, p.before, lg.span);
    taken = λ b t. p.taken b (and_both (f.test b) (g.test b) t).0;
    written = λ x b z k t.
        let q = and_both (f.test b) (g.test b) t in
        let r = p.written x b (omega (arith, lg.span)) k q.0 in
        let s = apart h g lh lg (inl (omega (arith, p.before))) x b k in
        (and_of r.0 (s.0 ∙ q.1), ap (λ y. (y, g.read (h.write x b))) r.1 ∙ ap (λ y. (put x (f.read b), y)) s.1);
  }

  pub part_second : (put : A → C → C) → Part h g put → Part h (both f g) (λ x y. (y.0, put x y.1))
  unfolding then_field
  part_second put p = record {
    after = omega (arith, p.after, lf.span);
    before = p.before;
    taken = λ b t. p.taken b (and_both (f.test b) (g.test b) t).1;
    written = λ x b z k t.
        let q = and_both (f.test b) (g.test b) t in
        let r = p.written x b z k q.1 in
        let s = apart h f lh lf (inr (omega (arith, p.after))) x b k in
        (and_of (s.0 ∙ q.0) r.0, ap (λ y. (y, g.read (h.write x b))) s.1 ∙ ap (λ y. (f.read b, y)) r.1);
  }

pub part_formed : {A B C : Type 0} (h : Field A) (f : Field B) (to : B → C) (from : C → B) (ok : C → Bool) (put : A → B → B) (set : A → C → C) →
    ((x : A) (y : B) → to (put x y) ≡ set x (to y)) → Part h f put → Part h (formed_as f to from ok) set
unfolding formed_as
part_formed h f to from ok put set e p = record {
  after = p.after;
  before = p.before;
  taken = p.taken;
  written = λ x b z k t. let r = p.written x b z k t in (r.0, ap to r.1 ∙ e x (f.read b));
}
