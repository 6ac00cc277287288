mod StartedLaws
