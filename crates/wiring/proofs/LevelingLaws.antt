-- The levels below a root, in room for 64.
use Rattle.std.proofs.Common.{◌≡◌, ℕ, List, ◌++◌, map, length, drop, replicate, Some, None, Option, sym, ap, ◌∙◌, arith}
use Rattle.std.proofs.lemmas.List.{drop-replicate, get_or_append_left}
use Rattle.wiring.specs.declared.links.Link.{Link}
use Rattle.wiring.specs.declared.wirings.Wiring.{Wiring}
use Rattle.wiring.specs.Links.{ends_of, fresh, drawn, EndsWithin}
use Rattle.wiring.specs.Levels.{levels, padded, LevelsLeast}
use Rattle.wiring.specs.Soundness.{bad_link, topology_fault}
use Rattle.wiring.specs.Topologies.{Topology, Valid}
use Rattle.wiring.specs.Wirings.{topology}
use Rattle.wiring.proofs.HeldLaws.{untold}
use Rattle.wiring.proofs.LevelLaws.{level_of, level_least, level_walk, levels_leveled}
use Rattle.wiring.proofs.MakingLaws.{ends_within, same_ends}
use Rattle.wiring.proofs.SoundnessLaws.{links_sound}

module _ (w : Wiring) (ls : List Link) (same : ls ≡ map fresh (topology w).links) where
  links_same : map ends_of ls ≡ (topology w).links
  links_same = ap (map ends_of) same ∙ same_ends (topology w).links

  pub ends_held : EndsWithin w.nodes ls
  ends_held = ends_within w.nodes ls (sym (ap (bad_link w.nodes 0) links_same ∙ links_sound (topology w) (untold (topology_fault (topology w)) w.sound)))

  pub levels_held : (root : ℕ) → levels (drawn w.nodes 0 ls) root ≡ levels (topology w) root
  levels_held root = ap (λ (es : List (ℕ × ℕ)). levels (record { nodes = w.nodes; layers = 0; links = es }) root) links_same

pub in_room : (n : ℕ) (ls target : List (Option ℕ)) → ls ≡ target → length ls ≡ n → ls ++ drop n (replicate {A = Option ℕ} 64 None) ≡ padded target
in_room n ls target e l =
    let z : n ≡ length ls = sym l in
    ap (λ m. ls ++ drop m (replicate {A = Option ℕ} 64 None)) z
    ∙ ap (λ (xs : List (Option ℕ)). ls ++ xs) (drop-replicate (length ls) 64 None)
    ∙ ap padded e

one : {o : Option ℕ} {a b : ℕ} → o ≡ Some a → o ≡ Some b → a ≡ b
one p q = cc

-- every node has its level, which is least
pub levels_least : (w : Topology) → Valid w → (root : ℕ) → LevelsLeast w root (padded (levels w root))
levels_least w v root r n a =
    let p = level_of w root v r n a in
    let h = levels_leveled w root v r in
    let long = h.long in (
      p.0,
      get_or_append_left (levels w root) _ None n (omega arith) ∙ p.1,
      record {
        walk = level_walk w root (levels w root) h p.0 n p.1;
        least = λ cs k. let q = level_least w root (levels w root) h k in let z : p.0 ≡ q.0 = one p.1 q.1 in let b = q.2 in omega arith;
      },
    )
