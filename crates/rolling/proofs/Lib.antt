pub mod RolledBodies
