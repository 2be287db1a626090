-- The test of what a watch waits for.
use Rattle.std.proofs.Common.{◌≡◌, true, refl}
use Rattle.fk_tree.specs.Watch.{same_kind}
use Rattle.fk_tree.specs.declared.change.Kind.{Kind}
use Rattle.fk_tree.specs.declared.change.Kind.TheVariants as kind

pub same_kind_is : (j k : Kind) → same_kind j k ≡ true → j ≡ k
same_kind_is kind.Data kind.Data e = refl
same_kind_is kind.Data kind.Child e = absurd (cc)
same_kind_is kind.Child kind.Data e = absurd (cc)
same_kind_is kind.Child kind.Child e = refl

pub same_kind_self : (k : Kind) → same_kind k k ≡ true
same_kind_self kind.Data = refl
same_kind_self kind.Child = refl

pub same_kind_sym : (a b : Kind) → same_kind a b ≡ true → same_kind b a ≡ true
same_kind_sym kind.Data kind.Data e = e
same_kind_sym kind.Child kind.Child e = e
same_kind_sym kind.Data kind.Child e = e
same_kind_sym kind.Child kind.Data e = e
