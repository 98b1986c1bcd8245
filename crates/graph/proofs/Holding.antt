-- Tables that hold a drawing: those that drawing gives hold the drawn graph, and after each kind's edit they hold the edited one.
-- Assumes nothing.
use mathlib.Core.Path.{◌≡◌, refl, sym, ap, ap₂, ◌∙◌, subst}
use mathlib.Core.Bool.{Bool, true, false, not, ◌&&◌, ◌||◌, or-false, or_assoc, and-true, and-false}
use mathlib.Core.Logic.{inl, inr}
use mathlib.Core.List.{List, ◌++◌}
use Prim.Native.Nat.{ℕ, ◌<◌, ◌^◌}
use native.Mathlib.Decide.{dec_lt}
use native.Mathlib.Omega.{arith}
use lib.ListN.{length}
use lib.Pow.{pow_pos}
use lib.Dec.{T, eqb, ltb, lt→ltb}
use Rattle.sets.specs.Sets.{member, single, union, difference, when, collect}
use Rattle.sets.proofs.Tests.{both, join, same_test, passes, fails, test_equal}
use Rattle.sets.proofs.Laws.{member-union, member-difference, member-single, member-when, member-collect, member-empty, equal_members, union-empty, union-lt, difference-empty, difference-lt, single-lt, known_single, when-lt, collect-lt}
use Rattle.graph.specs.Tables.{at, table}
use Rattle.graph.specs.Graph.{Graph, role_count, privilege_count, max_alone, end_roles}
use Rattle.graph.specs.Drawing.{edge, juniors, direct, redraw}
use Rattle.graph.specs.Editing.{Change, add_by_place, add_by_privileges, remove_role, grant, withdraw, add_edge, remove_edge, for_role, edit}
use Rattle.graph.specs.Refusing.{passed, early, input_checks, state_checks, Passes}
use Rattle.graph.specs.Invariants.{Table}
use Rattle.graph.specs.Working.{less_juniors, Holds}
use Rattle.graph.proofs.Tables.{at-table, length-table, at_end}
use Rattle.graph.proofs.Order.{present_cases, edge-below, above-min}
use Rattle.graph.proofs.Heights.{order, edges_laid}
use Rattle.graph.proofs.Refusals.{parts, passed_passes, number_lt}
use Rattle.graph.proofs.DrawingCode.{seniors_cover, directs_table}
use Rattle.graph.proofs.Edits.{Fits, edge_laid, joins_laid}

-- ---- sets as the code makes them
known_lt : {w a s : ℕ} → a < w → s ≡ when (ltb a w) (single a) → s < 2 ^ w
known_lt {w} {a} l e = subst (λ (i : ℕ). i < 2 ^ w) (sym (known_single l e)) (single-lt w a l)

known_member : {w a s : ℕ} → a < w → s ≡ when (ltb a w) (single a) → (t : ℕ) → member t s ≡ eqb t a
known_member {a = a} l e t = ap (member t) (known_single l e) ∙ member-single t a

-- ---- tables
-- A table of sets, each within its width.
bounded_table : (f : ℕ → ℕ) → ((r : ℕ) → f r < 2 ^ role_count) → Table role_count role_count (table role_count f)
bounded_table f b = record {
  whole = length-table role_count f;
  entry_lt = λ r.
      elim (dec_lt r role_count) [
        | yes l ↦ subst (λ (x : ℕ). x < 2 ^ role_count) (sym (at-table role_count r f l)) (b r)
        | no n ↦ subst (λ (x : ℕ). x < 2 ^ role_count) (sym (at_end (table role_count f) r (omega (arith, length-table role_count f)))) (pow_pos role_count)
      ];
}

-- The entries of the roles, as functions of the role number.
abbrev Entries : List ℕ → (ℕ → ℕ) → Type 0
Entries l f = (length l ≡ role_count) × ((r : ℕ) → r < role_count → at l r ≡ f r)

entries : {l : List ℕ} (f : ℕ → ℕ) → l ≡ table role_count f → Entries l f
entries f e = (ap length e ∙ length-table role_count f, λ r k. ap (λ (l : List ℕ). at l r) e ∙ at-table role_count r f k)

-- The table with out taken away from, and put joined to, the entry of each member of into.
abbrev exchanged : List ℕ → ℕ → ℕ → ℕ → List ℕ
exchanged l into out put = table role_count (λ r. union (difference (at l r) (when (member r into) out)) (when (member r into) put))

module _ (l : List ℕ) (into out put : ℕ) {m : List ℕ} (e : m ≡ exchanged l into out put) where
  exchanged_table : Table role_count role_count l → put < 2 ^ role_count → Table role_count role_count m
  exchanged_table w b =
      subst (Table role_count role_count) (sym e)
      (bounded_table _ (λ r. union-lt role_count _ _ (difference-lt role_count _ _ (w.entry_lt r)) (when-lt role_count (member r into) put b)))

  exchanged_member : (t r : ℕ) → r < role_count → member t (at m r) ≡ (member t (at l r) && not (member r into && member t out)) || (member r into && member t put)
  exchanged_member t r k =
      ap (member t) ((entries (λ r. union (difference (at l r) (when (member r into) out)) (when (member r into) put)) e).1 r k)
      ∙ simp (member-union, member-difference, member-when)

-- The same where nothing is taken away, and where nothing is joined.
joined-member : (l : List ℕ) (into put : ℕ) {m : List ℕ} → m ≡ exchanged l into 0 put → (t r : ℕ) → r < role_count → member t (at m r) ≡ member t (at l r) || (member r into && member t put)
joined-member l into put e t r k = exchanged_member l into 0 put e t r k ∙ simp (member-empty, and-false, and-true)

taken_member : (l : List ℕ) (into out : ℕ) {m : List ℕ} → m ≡ exchanged l into out 0 → (t r : ℕ) → r < role_count → member t (at m r) ≡ member t (at l r) && not (member r into && member t out)
taken_member l into out e t r k = exchanged_member l into out 0 e t r k ∙ simp (member-empty, and-false, or-false)

-- The tables themselves.
none_when : (b : Bool) → when b 0 ≡ 0
unfolding when
none_when true = refl
none_when false = refl

pub joined_all : (l : List ℕ) (into put : ℕ) {m : List ℕ} → m ≡ exchanged l into 0 put → m ≡ table role_count (λ r. union (at l r) (when (member r into) put))
joined_all l into put e = e ∙ simp (none_when, difference-empty)

pub taken_all : (l : List ℕ) (into out : ℕ) {m : List ℕ} → m ≡ exchanged l into out 0 → m ≡ table role_count (λ r. difference (at l r) (when (member r into) out))
taken_all l into out e = e ∙ simp (none_when, union-empty)

-- ---- the drawn graph
module _ (g : Graph) (h : g.roles < 2 ^ role_count) where
  -- What drawing gives holds the drawn graph.
  pub drawn_holds : {P : ℕ} {D J : List ℕ} → P ≡ union (difference g.roles end_roles) max_alone → J ≡ table role_count (juniors g) → D ≡ less_juniors P g.sets J → Holds (redraw g) g.roles D J
  unfolding redraw juniors
  drawn_holds {P} {D} {J} p j d =
      let (whole, own) = entries (direct g) (d ∙ ap₂ (λ (x : ℕ) (y : List ℕ). less_juniors x g.sets y) p j ∙ directs_table g h _ (seniors_cover g)) in
      record {
        same_roles = refl;
        whole = whole;
        table = subst (Table role_count role_count) (sym j) (bounded_table (juniors g) (λ r. collect-lt role_count (λ t. edge g t r)));
        same_directs = own;
        same_joins = λ t r k l.
            ap (member t) ((entries (juniors g) j).1 r l)
            ∙ member-collect t role_count (λ t. edge g t r)
            ∙ ap (λ (b : Bool). b && edge g t r) (passes (ltb t role_count) (lt→ltb t role_count k));
        no_circle = edges_laid g h;
      }

  -- A drawn edge leads to an ordinary role or MaxRole.
  to_senior : (t r : ℕ) → T (edge g t r) → T (member r (union (difference g.roles end_roles) max_alone))
  to_senior t r d =
      let b = edge-below g t r d in
      let l = above-min g t r b in
      seniors_cover g r (elim (present_cases g r ((order g h).between_present t r b).1) [ inl x ↦ inr (omega arith) | inr o ↦ inl o ])

  no_loop : (r : ℕ) → edge g r r ≡ false
  no_loop r = fails (edge g r r) (λ d. (order g h).irreflexive r (edge-below g r r d))

-- ---- tests of kind 3
-- A junior of a senior of a, or of another role, where a is taken out and a's own juniors too.
left_over : (x e y q a : Bool) → (T q → x ≡ e) → (T q → y ≡ false) → (T a → x ≡ y) → ((x && not (e && q)) || (e && y)) && not (a && y) ≡ not a && ((x || (e && y)) && not q)
left_over x e true q true s z w = and-false ((x && not (e && q)) || (e && true))
left_over x e false q true s z w = rw (w tt, and-false e)
left_over x e y false false s z w = rw (and-false e, and-true x, and-true (x || (e && y)))
left_over x true y true false s z w = rw (s tt, z tt)
left_over x false y true false s z w = rw (s tt)

-- A direct privilege of a role, or handed to it, where a's own are taken out of a.
handed_on : (x e o y a : Bool) → (T a → x ≡ y) → (x || (e && (o && y))) && not (a && y) ≡ not a && (x || ((o && e) && y))
handed_on x e o true true w = and-false (x || (e && (o && true)))
handed_on x e o false true w = rw (w tt, and-false o, and-false e)
handed_on x true o y false w = rw (and-true (x || (o && y)), and-true o)
handed_on x false o y false w = rw (or-false x, and-true x, and-false o, or-false x)

-- ---- each kind's edit
-- A table of juniors that has these edges.
abbrev Joined : List ℕ → (ℕ → ℕ → Bool) → Type 0
Joined K joins = Table role_count role_count K × ((t r : ℕ) → t < role_count → r < role_count → member t (at K r) ≡ joins t r)

module _ (g : Graph) {R : ℕ} {D J : List ℕ} (h : Holds (redraw g) R D J) where
  entry_lt : (a : ℕ) {s : ℕ} → s ≡ at J a → s < 2 ^ role_count
  entry_lt a u = subst (λ (i : ℕ). i < 2 ^ role_count) (sym u) (h.table.entry_lt a)

  -- The checks before closing passed.
  checked : (c : Change) → early g c ≡ passed → Passes (input_checks c) × Passes (state_checks g c)
  unfolding early
  checked c e = parts (input_checks c) (state_checks g c) (passed_passes (input_checks c ++ state_checks g c) e)

  -- The direct set of a, altered by a set.
  altered : {a role : ℕ} → a < role_count → role ≡ when (ltb a role_count) (single a) → (op : ℕ → ℕ → ℕ) {s t : ℕ} {E : List ℕ} → s ≡ t → E ≡ table role_count (λ r. op (at D r) (when (member r role) s))
      → Entries E (λ r. op ((redraw g).directs r) (for_role a t r))
  unfolding for_role
  altered {role = role} ka one op {s} q e =
      let (n, f) = entries (λ r. op (at D r) (when (member r role) s)) e in
      (n, λ r k. f r k ∙ rw (h.same_directs r k, known_member ka one r, q))

  -- Tables with these direct sets, where the edges stay.
  regranted : {E : List ℕ} {f : ℕ → ℕ} → Entries E f → Holds (record { roles = (redraw g).roles; directs = f; joins = (redraw g).joins }) R E J
  regranted d = record { same_roles = h.same_roles; whole = d.0; table = h.table; same_directs = d.1; same_joins = h.same_joins; no_circle = h.no_circle }

  -- Kind 4.
  pub grant_holds : (a p : ℕ) → early g (grant a p) ≡ passed → {role s : ℕ} {E : List ℕ} → role ≡ when (ltb a role_count) (single a) → s ≡ when (ltb p privilege_count) (single p)
      → E ≡ table role_count (λ r. union (at D r) (when (member r role) s)) → Holds (edit (grant a p) (redraw g)) R E J
  unfolding edit redraw input_checks Passes
  grant_holds a p e one s m =
      let x = (checked (grant a p) e).0 in
      regranted (altered (number_lt role_count a x.0) one union (known_single (number_lt privilege_count p x.1.0) s) m)

  -- Kind 5.
  pub withdraw_holds : (a p : ℕ) → early g (withdraw a p) ≡ passed → {role s : ℕ} {E : List ℕ} → role ≡ when (ltb a role_count) (single a) → s ≡ when (ltb p privilege_count) (single p)
      → E ≡ table role_count (λ r. difference (at D r) (when (member r role) s)) → Holds (edit (withdraw a p) (redraw g)) R E J
  unfolding edit redraw input_checks Passes
  withdraw_holds a p e one s m =
      let x = (checked (withdraw a p) e).0 in
      regranted (altered (number_lt role_count a x.0) one difference (known_single (number_lt privilege_count p x.1.0) s) m)

  -- Kind 6.
  pub add_edge_holds : (a b : ℕ) → early g (add_edge a b) ≡ passed → {junior senior : ℕ} {K : List ℕ} → junior ≡ when (ltb a role_count) (single a) → senior ≡ when (ltb b role_count) (single b)
      → K ≡ exchanged J senior 0 junior → Holds (edit (add_edge a b) (redraw g)) R D K
  unfolding edit redraw input_checks Passes
  add_edge_holds a b e {junior} {senior} one two m =
      let x = (checked (add_edge a b) e).0 in
      let ka = number_lt role_count a x.0 in
      let kb = number_lt role_count b x.1.0 in
      record {
        same_roles = h.same_roles;
        whole = h.whole;
        table = exchanged_table J senior 0 junior m h.table (known_lt ka one);
        same_directs = h.same_directs;
        same_joins = λ t r k l. joined-member J senior junior m t r l ∙ rw (h.same_joins t r k l, known_member kb two r, known_member ka one t);
        no_circle = edge_laid g h.no_circle a b (checked (add_edge a b) e).0 (checked (add_edge a b) e).1;
      }

module _ (g : Graph) {R : ℕ} (b : R < 2 ^ role_count) {D J : List ℕ} (h : Holds (redraw g) R D J) where
  roles_lt : g.roles < 2 ^ role_count
  unfolding redraw
  roles_lt = subst (λ (x : ℕ). x < 2 ^ role_count) h.same_roles b

  -- Tables that have what the edit says hold the edited drawing, since the checks let no circle pass.
  edited : (c : Change) → Fits c → early g c ≡ passed → {S : ℕ} {E K : List ℕ} → S ≡ (edit c (redraw g)).roles → Entries E (edit c (redraw g)).directs → Joined K (edit c (redraw g)).joins → Holds (edit c (redraw g)) S E K
  edited c f e p d j = record {
    same_roles = p;
    whole = d.0;
    table = j.0;
    same_directs = d.1;
    same_joins = j.1;
    no_circle = joins_laid g roles_lt c f (checked g h c e).0 (checked g h c e).1;
  }

  -- The roles with an edge from a, as the code finds them.
  seniors_found : {a : ℕ} → a < role_count → {P over : ℕ} → P ≡ union (difference R end_roles) max_alone → over ≡ collect role_count (λ r. member r P && member a (at J r))
      → (r : ℕ) → r < role_count → member r over ≡ edge g a r
  unfolding redraw
  seniors_found {a} ka {P} p e r l =
      ap (member r) e
      ∙ member-collect r role_count (λ r. member r P && member a (at J r))
      ∙ rw (passes (ltb r role_count) (lt→ltb r role_count l), h.same_joins a r ka l, p)
      (same_test (member r (union (difference R end_roles) max_alone) && edge g a r) (edge g a r) (λ t. (both (member r (union (difference R end_roles) max_alone)) (edge g a r) t).1)
      (λ t. join (member r (union (difference R end_roles) max_alone)) (edge g a r) (subst (λ (x : ℕ). T (member r (union (difference x end_roles) max_alone))) (sym h.same_roles) (to_senior g roles_lt a r t)) t))

  -- Kind 2.
  pub add_by_privileges_holds : (a own : ℕ) → own < 2 ^ privilege_count → early g (add_by_privileges a own) ≡ passed → {S role : ℕ} {E : List ℕ} → role ≡ when (ltb a role_count) (single a)
      → E ≡ table role_count (λ r. union (at D r) (when (member r role) own)) → S ≡ union R role → Holds (edit (add_by_privileges a own) (redraw g)) S E J
  unfolding edit redraw Fits input_checks Passes
  add_by_privileges_holds a own lo e one m s =
      let ka = number_lt role_count a (checked g h (add_by_privileges a own) e).0.0 in
      edited (add_by_privileges a own) lo e (s ∙ ap₂ union h.same_roles (known_single ka one)) (altered g h ka one union refl m) (h.table, h.same_joins)

  -- Kind 1.
  pub add_by_place_holds : (a own js ss : ℕ) → own < 2 ^ privilege_count → js < 2 ^ role_count → ss < 2 ^ role_count → early g (add_by_place a own js ss) ≡ passed
      → {S role : ℕ} {E K L : List ℕ} → role ≡ when (ltb a role_count) (single a)
      → E ≡ table role_count (λ r. union (at D r) (when (member r role) own)) → K ≡ exchanged J role 0 js → L ≡ exchanged K ss 0 role → S ≡ union R role
      → Holds (edit (add_by_place a own js ss) (redraw g)) S E L
  unfolding edit redraw Fits input_checks Passes
  add_by_place_holds a own js ss lo lj ls e {S} {role} {E} {K} one m n q s =
      let ka = number_lt role_count a (checked g h (add_by_place a own js ss) e).0.0 in
      edited (add_by_place a own js ss) (lo, lj, ls) e (s ∙ ap₂ union h.same_roles (known_single ka one)) (altered g h ka one union refl m) (
        exchanged_table K ss 0 role q (exchanged_table J role 0 js n h.table lj) (known_lt ka one),
        λ t r k l. joined-member K ss role q t r l ∙ rw (joined-member J role js n t r l, h.same_joins t r k l, known_member ka one r, known_member ka one t, or_assoc),
      )

  -- Kind 7.
  pub remove_edge_holds : (a b : ℕ) → early g (remove_edge a b) ≡ passed → {junior senior under P over : ℕ} {K L : List ℕ}
      → junior ≡ when (ltb a role_count) (single a) → senior ≡ when (ltb b role_count) (single b)
      → under ≡ at J a → P ≡ union (difference R end_roles) max_alone → over ≡ collect role_count (λ r. member r P && member b (at J r))
      → K ≡ exchanged J senior junior under → L ≡ exchanged K over 0 junior → Holds (edit (remove_edge a b) (redraw g)) R D L
  unfolding edit redraw Fits input_checks Passes
  remove_edge_holds a b e {junior} {senior} {under} {P} {over} {K} one two u p o n q =
      let x = (checked g h (remove_edge a b) e).0 in
      let ka = number_lt role_count a x.0 in
      let kb = number_lt role_count b x.1.0 in
      edited (remove_edge a b) tt e h.same_roles (h.whole, h.same_directs) (
        exchanged_table K over 0 junior q (exchanged_table J senior junior under n h.table (entry_lt g h a u)) (known_lt ka one),
        λ t r k l. joined-member K over junior q t r l
            ∙ rw (exchanged_member J senior junior under n t r l, u, h.same_joins t r k l, h.same_joins t a k ka, known_member kb two r, known_member ka one t, seniors_found kb p o r l, or_assoc),
      )

  -- Kind 3.
  pub remove_role_holds : (a b : ℕ) → early g (remove_role a b) ≡ passed → {S role P over own handed under : ℕ} {E F K L : List ℕ} → role ≡ when (ltb a role_count) (single a)
      → P ≡ union (difference R end_roles) max_alone → over ≡ collect role_count (λ r. member r P && member a (at J r)) → own ≡ at D a → handed ≡ when (eqb b 1) own
      → E ≡ table role_count (λ r. union (at D r) (when (member r over) handed)) → F ≡ table role_count (λ r. difference (at E r) (when (member r role) own))
      → under ≡ at J a → K ≡ exchanged J over role under → L ≡ exchanged K role under 0 → S ≡ difference R role → Holds (edit (remove_role a b) (redraw g)) S F L
  unfolding edit redraw Fits input_checks Passes
  remove_role_holds a b e {S} {role} {P} {over} {own} {handed} {under} {E} {F} {K} {L} one p o v w m f u n q s =
      edited (remove_role a b) tt e (s ∙ ap₂ difference h.same_roles (known_single ka one))
      ((entries (λ r. difference (at E r) (when (member r role) own)) f).0, directs) (
        exchanged_table K role under 0 q (exchanged_table J over role under n h.table (entry_lt g h a u)) (pow_pos role_count),
        λ t r k l. taken_member K role under q t r l
            ∙ rw (exchanged_member J over role under n t r l, u, h.same_joins t r k l, h.same_joins t a k ka, known_member ka one r, known_member ka one t, seniors_found ka p o r l)
            (left_over (edge g t r) (edge g a r) (edge g t a) (eqb t a) (eqb r a) (λ x. ap (λ (i : ℕ). edge g i r) (test_equal x)) (λ x. ap (λ (i : ℕ). edge g i a) (test_equal x) ∙ no_loop g roles_lt a) (λ x. ap (edge g t) (test_equal x))),
      )
    where
      ka : a < role_count
      ka = number_lt role_count a (checked g h (remove_role a b) e).0.0

      directs : (r : ℕ) → r < role_count → at F r ≡ when (not (eqb r a)) (union (direct g r) (when (eqb b 1 && edge g a r) (direct g a)))
      directs r l =
          (entries (λ r. difference (at E r) (when (member r role) own)) f).1 r l
          ∙ rw ((entries (λ r. union (at D r) (when (member r over) handed)) m).1 r l, w, v, h.same_directs r l, h.same_directs a ka, known_member ka one r, seniors_found ka p o r l)
          (equal_members _ _ (λ t. simp (member-difference, member-union, member-when) (handed_on (member t (direct g r)) (edge g a r) (eqb b 1) (member t (direct g a)) (eqb r a) (λ x. ap (λ (i : ℕ). member t (direct g i)) (test_equal x)))))
